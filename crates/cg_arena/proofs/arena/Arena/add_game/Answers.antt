use Rattle.std.proofs.Common.{◌≡◌, ◌+◌, ◌++◌, ◌∷◌, [], ℕ, List, ap, append_assoc, false, length, refl, rules, subst, sym, zip, ◌∙◌}
use Rattle.cg_form.specs.Game.{node}
use Rattle.cg_arena.specs.declared.arena.Entry.{Entry}
use Rattle.cg_arena.specs.declared.summary.Summary.{Summary}
use Rattle.cg_arena.specs.Arena.{IsArena, games_of, said_by}
use Rattle.cg_arena.proofs.Results.{always_on_err}
use Rattle.cg_arena.proofs.Adding.{Adds, adds_game, one_entry, same_indexes}
use Rattle.cg_arena.proofs.Interning.{counted}
use Rattle.cg_arena.proofs.arena.Arena.add_game.Goals as goal

pub invariant_of-self-in_err-extend_from_slice-2 : goal.invariant_of-self-in_err-extend_from_slice-2
invariant_of-self-in_err-extend_from_slice-2 c =
    (same_indexes c.self.inside.options.items c.args.lefts.now c.extend_from_slice-2.new.self.items c.self.inside.entries.items c.self.inside.summaries.items
    c.args.self.now
    (c.in_err-extend_from_slice-2.ensures.items ∙ c.in_ok-extend_from_slice.ensures.items) c.self.invariant c.self.view_is).0

pub returns-in_err-extend_from_slice-2-clause-same : goal.returns-in_err-extend_from_slice-2-clause-same
returns-in_err-extend_from_slice-2-clause-same c =
    always_on_err c.from_residual-in_err-extend_from_slice-2.result _
    (same_indexes c.self.inside.options.items c.args.lefts.now c.extend_from_slice-2.new.self.items c.self.inside.entries.items c.self.inside.summaries.items
    c.args.self.now
    (c.in_err-extend_from_slice-2.ensures.items ∙ c.in_ok-extend_from_slice.ensures.items) c.self.invariant c.self.view_is).1

unpushed : (c : goal.After-from_residual-in_err-add) → IsArena c.extend_from_slice-2.new.self.items c.add.new.entries.items c.add.new.summaries.items
    × (said_by c.extend_from_slice-2.new.self.items [] (zip c.add.new.entries.items c.add.new.summaries.items) ≡ c.args.self.now)
unpushed c =
    let all = c.extend_from_slice-2.new.self.items in
    let more = same_indexes c.self.inside.options.items (c.args.lefts.now ++ c.args.rights.now) all c.self.inside.entries.items c.self.inside.summaries.items
    c.args.self.now
    (c.in_ok-extend_from_slice-2.ensures.items ∙ ap (λ z. z ++ c.args.rights.now) c.in_ok-extend_from_slice.ensures.items
    ∙ append_assoc c.self.inside.options.items c.args.lefts.now c.args.rights.now) c.self.invariant c.self.view_is in
    let P : List Entry → Type 0 = λ z. IsArena all z c.self.inside.summaries.items × (said_by all [] (zip z c.self.inside.summaries.items) ≡ c.args.self.now) in
    let Q : List Summary → Type 0 = λ z. IsArena all c.add.new.entries.items z × (said_by all [] (zip c.add.new.entries.items z) ≡ c.args.self.now) in
    subst Q (sym c.in_err-add.ensures.summaries) (subst P (sym c.in_err-add.ensures.entries) more)

pub invariant_of-self-in_err-add : goal.invariant_of-self-in_err-add
invariant_of-self-in_err-add c = (unpushed c).0

pub returns-in_err-add-clause-same : goal.returns-in_err-add-clause-same
returns-in_err-add-clause-same c = always_on_err c.from_residual-in_err-add.result _ (unpushed c).1

abbrev entry_of : goal.In_ok-add → Entry
entry_of c = record {
  keys = c.of.result;
  lefts = c.len-first.result;
  rights = c.len-first.result + length c.args.lefts.now;
  end = c.len-first.result + length c.args.lefts.now + length c.args.rights.now;
  is_number = false;
  weight = c.weight_with-weight.result;
}

pushed : (c : goal.In_ok-add) → IsArena c.extend_from_slice-2.new.self.items c.add.new.entries.items c.add.new.summaries.items
    × (said_by c.extend_from_slice-2.new.self.items [] (zip c.add.new.entries.items c.add.new.summaries.items)
    ≡ c.args.self.now ++ (node (games_of c.args.self.now c.args.lefts.now) (games_of c.args.self.now c.args.rights.now) ∷ []))
pushed c =
    let opts = c.self.inside.options.items in
    let ls = c.args.lefts.now in
    let rs = c.args.rights.now in
    let gs = c.args.self.now in
    let g = node (games_of gs ls) (games_of gs rs) in
    let all = c.extend_from_slice-2.new.self.items in
    let first : c.len-first.result ≡ length opts = search rules in
    let middle : c.len-first.result + length ls ≡ length (opts ++ ls) = search rules in
    let end : c.len-first.result + length ls + length rs ≡ length ((opts ++ ls) ++ rs) = search rules in
    let e : all ≡ (opts ++ ls) ++ rs = c.in_ok-extend_from_slice-2.ensures.items ∙ ap (λ z. z ++ rs) c.in_ok-extend_from_slice.ensures.items in
    let more = same_indexes opts (ls ++ rs) all c.self.inside.entries.items c.self.inside.summaries.items gs (e ∙ append_assoc opts ls rs) c.self.invariant
    c.self.view_is in
    let A : List ℕ → Type 0 = λ z. Adds z gs (entry_of c) c.args.summary.now g in
    let adds = subst A (sym e) (adds_game opts ls rs gs (entry_of c) c.args.summary.now refl first middle end c.requires.lefts c.requires.rights
    c.requires.canonical c.requires.summary c.of.ensures) in
    one_entry all c.self.inside.entries.items c.add.new.entries.items c.self.inside.summaries.items c.add.new.summaries.items gs (entry_of c) c.args.summary.now
    g
    more.0 more.1 adds c.in_ok-add.ensures.entries c.in_ok-add.ensures.summaries c.requires.few

pub invariant_of-self-2 : goal.invariant_of-self-2
invariant_of-self-2 c = (pushed c).0

pub returns-clause-index : goal.returns-clause-index
returns-clause-index c =
    let n = counted c.self.inside c.args.self.now c.self.invariant c.self.view_is in
    search rules

pub returns-clause-games : goal.returns-clause-games
returns-clause-games c = (pushed c).1

pub overflow_cast-count : goal.overflow_cast-count
overflow_cast-count c =
    let n = counted c.self.inside c.args.self.now c.self.invariant c.self.view_is in
    let few = c.requires.few in
    search rules

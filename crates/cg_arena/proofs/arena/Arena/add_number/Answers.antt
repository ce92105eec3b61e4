use Rattle.std.proofs.Common.{◌≡◌, ◌++◌, ◌∷◌, [], length, refl, rules, true, zip}
use Rattle.cg_form.specs.Game.{number}
use Rattle.cg_arena.specs.declared.arena.Entry.{Entry}
use Rattle.cg_arena.specs.Arena.{IsArena, said_by}
use Rattle.cg_arena.proofs.Adding.{Adds, adds_number, one_entry}
use Rattle.cg_arena.proofs.Interning.{counted}
use Rattle.cg_arena.proofs.arena.Arena.add_number.Goals as goal

abbrev entry_of : goal.In_ok-add → Entry
entry_of c = record {
  keys = c.of.result;
  lefts = c.len-end.result;
  rights = c.len-end.result;
  end = c.len-end.result;
  is_number = true;
  weight = 1;
}

pushed : (c : goal.In_ok-add) → IsArena c.self.inside.options.items c.add.new.entries.items c.add.new.summaries.items
    × (said_by c.self.inside.options.items [] (zip c.add.new.entries.items c.add.new.summaries.items) ≡ c.args.self.now ++ (number c.args.x ∷ []))
pushed c =
    let opts = c.self.inside.options.items in
    let e : c.len-end.result ≡ length opts = search rules in
    let adds : Adds opts c.args.self.now (entry_of c) c.number-summary.result (number c.args.x) =
    adds_number opts c.args.self.now (entry_of c) c.number-summary.result c.args.x refl c.number-summary.ensures.at e e e c.number-summary.ensures.summary
    c.of.ensures in
    one_entry opts c.self.inside.entries.items c.add.new.entries.items c.self.inside.summaries.items c.add.new.summaries.items c.args.self.now (entry_of c)
    c.number-summary.result
    (number c.args.x) c.self.invariant c.self.view_is adds c.in_ok-add.ensures.entries c.in_ok-add.ensures.summaries c.requires.few

pub invariant_of-self-2 : goal.invariant_of-self-2
invariant_of-self-2 c = (pushed c).0

pub returns-clause-index : goal.returns-clause-index
returns-clause-index c =
    let n = counted c.self.inside c.args.self.now c.self.invariant c.self.view_is in
    search rules

pub returns-clause-games : goal.returns-clause-games
returns-clause-games c = (pushed c).1

pub overflow_cast-count : goal.overflow_cast-count
overflow_cast-count c =
    let n = counted c.self.inside c.args.self.now c.self.invariant c.self.view_is in
    let few = c.requires.few in
    search rules

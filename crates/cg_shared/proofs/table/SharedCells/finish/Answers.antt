use Rattle.std.proofs.Common.{sym, ap, ◌∙◌, subst}
use Rattle.cg_cells.specs.Meaning.{Grows}
use Rattle.cg_cells.specs.Store.{IsSublist, thing_at}
use Rattle.cg_cells.specs.Views.{cells_of}
use Rattle.cg_cells.specs.Steps.{IsOutcome}
use Rattle.cg_cells.specs.Words.{Words, state_of}
use Rattle.cg_shared.specs.Plays.{sizes_of}
use Rattle.cg_shared.specs.Passes.{CellsOf, PassOf, pass_state}
use Rattle.cg_shared.proofs.Ending.{ok_map, end_store, end_knows, end_noted, end_reached}
use Rattle.cg_shared.proofs.table.SharedCells.finish.Goals as goal

pub of_words-requires : goal.of_words-requires
of_words-requires g c =
    let size_is = c.size-size.ensures ∙ ap (λ (s : CellsOf). cells_of s.sizes) (sym c.self.view_is) ∙ ap (λ p. cells_of (sizes_of p)) (sym c.self.invariant.0) in
    end_store g.F.Facts.meaning g.met.F.Facts.lawful c.self.inside.table.shared.key c.pass.inside.seat.id c.pass.inside.seat.me.0 c.pass.invariant.alive _ _ c.close_with-closed.ensures.values.2
    c.size-size.result size_is c.in_ok-keys.field-0.items c.in_ok-values.field-0.items c.in_ok-keys.ensures.long c.in_ok-values.ensures.long c.in_ok-keys.ensures.words c.in_ok-values.ensures.words
    c.pass.inside.spare c.pass.invariant.same_spare

pub returns-clause-known : goal.returns-clause-known
returns-clause-known g c =
    let size_is = c.size-size.ensures ∙ ap (λ (s : CellsOf). cells_of s.sizes) (sym c.self.view_is) ∙ ap (λ p. cells_of (sizes_of p)) (sym c.self.invariant.0) in
    let r = end_knows g.F.Facts.meaning g.met.F.Facts.lawful c.self.inside.table.shared.key c.pass.inside.seat.id c.pass.inside.seat.me.0 c.pass.invariant.alive _ _ c.close_with-closed.ensures.values.2
    c.size-size.result size_is c.in_ok-keys.field-0.items c.in_ok-values.field-0.items c.in_ok-keys.ensures.long c.in_ok-values.ensures.long c.in_ok-keys.ensures.words c.in_ok-values.ensures.words in
    ok_map _ _ (λ (s : Words) e. subst (λ (s : Words). Grows (thing_at (pass_state c.args.pass)) (thing_at (state_of g.F.Facts.meaning s))) (sym e)
    (subst (λ p. Grows (thing_at (pass_state p)) (thing_at (state_of g.F.Facts.meaning record { keys = c.in_ok-keys.field-0.items; values = c.in_ok-values.field-0.items; spare = c.pass.inside.spare }))) c.pass.view_is r)) c.of_words.result c.of_words.ensures.words

pub returns-clause-noted : goal.returns-clause-noted
returns-clause-noted g c =
    let size_is = c.size-size.ensures ∙ ap (λ (s : CellsOf). cells_of s.sizes) (sym c.self.view_is) ∙ ap (λ p. cells_of (sizes_of p)) (sym c.self.invariant.0) in
    let r = end_noted g.F.Facts.meaning g.met.F.Facts.lawful c.self.inside.table.shared.key c.pass.inside.seat.id c.pass.inside.seat.me.0 c.pass.invariant.alive _ _ c.close_with-closed.ensures.values.2
    c.size-size.result size_is c.in_ok-keys.field-0.items c.in_ok-values.field-0.items c.in_ok-keys.ensures.long c.in_ok-values.ensures.long c.in_ok-keys.ensures.words c.in_ok-values.ensures.words in
    ok_map _ _ (λ (s : Words) e. subst (λ (s : Words). IsSublist (pass_state c.args.pass).noted (state_of g.F.Facts.meaning s).noted) (sym e)
    (subst (λ p. IsSublist (pass_state p).noted (state_of g.F.Facts.meaning record { keys = c.in_ok-keys.field-0.items; values = c.in_ok-values.field-0.items; spare = c.pass.inside.spare }).noted) c.pass.view_is r)) c.of_words.result c.of_words.ensures.words

pub returns-clause-reached : goal.returns-clause-reached
returns-clause-reached g c =
    let size_is = c.size-size.ensures ∙ ap (λ (s : CellsOf). cells_of s.sizes) (sym c.self.view_is) ∙ ap (λ p. cells_of (sizes_of p)) (sym c.self.invariant.0) in
    let r = end_reached g.F.Facts.meaning g.met.F.Facts.lawful c.self.inside.table.shared.key c.pass.inside.seat.id c.pass.inside.seat.me.0 c.pass.invariant.alive _ _ c.close_with-closed.ensures.values.2
    c.size-size.result size_is c.in_ok-keys.field-0.items c.in_ok-values.field-0.items c.in_ok-keys.ensures.long c.in_ok-values.ensures.long c.in_ok-keys.ensures.words c.in_ok-values.ensures.words in
    let sizes = ap sizes_of c.self.invariant.0 ∙ ap (λ (s : CellsOf). s.sizes) c.self.view_is in
    ok_map _ _ (λ (s : Words) e. subst (λ (s : Words). IsOutcome g.F.Facts.meaning c.args.self.sizes s.keys s.values c.args.pass.sees) (sym e)
    (subst (λ z. IsOutcome g.F.Facts.meaning z c.in_ok-keys.field-0.items c.in_ok-values.field-0.items c.args.pass.sees) sizes
    (subst (λ (p : PassOf _). IsOutcome g.F.Facts.meaning (sizes_of c.self.inside.table.shared.key) c.in_ok-keys.field-0.items c.in_ok-values.field-0.items p.sees) c.pass.view_is r))) c.of_words.result c.of_words.ensures.words

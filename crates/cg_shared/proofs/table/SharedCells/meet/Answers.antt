use Rattle.std.proofs.Common.{[], ◌∷◌, subst}
use Rattle.cg_cells.specs.Meaning.{Grows}
use Rattle.cg_cells.specs.Store.{IsSublist, thing_at}
use Rattle.cg_cells.specs.Views.{a_join, makes, knows}
use Rattle.cg_shared.specs.Passes.{pass_state}
use Rattle.cg_shared.proofs.Telling.{meet_knows, meet_noted}
use Rattle.cg_shared.proofs.table.SharedCells.meet.Goals as goal

pub returns-clause-known : goal.returns-clause-known
returns-clause-known g c =
    let r = meet_knows g.F.Facts.meaning (makes (a_join ∷ []) c.pass.inside.seat.me.0) c.other.inside.seat.me.0 c.meet.new.seat.me.0 c.meet.ensures.sure c.meet.ensures.view in (
      subst (λ p. Grows (thing_at (pass_state p)) (knows c.meet.new.seat.me.0)) c.pass.view_is r.0,
      subst (λ p. Grows (thing_at (pass_state p)) (knows c.meet.new.seat.me.0)) c.other.view_is r.1,
    )

pub returns-clause-noted : goal.returns-clause-noted
returns-clause-noted g c =
    let r = meet_noted (makes (a_join ∷ []) c.pass.inside.seat.me.0) c.other.inside.seat.me.0 c.meet.new.seat.me.0 c.meet.ensures.view in (
      subst (λ p. IsSublist (pass_state p).noted c.meet.new.seat.me.0.noted) c.pass.view_is r.0,
      subst (λ p. IsSublist (pass_state p).noted c.meet.new.seat.me.0.noted) c.other.view_is r.1,
    )

use Rattle.std.proofs.Common.{subst}
use Rattle.cg_form.specs.Game.{Game}
use Rattle.cg_thermo.specs.StopsOf.{StopsAre}
use Rattle.cg_thermo.proofs.StopCuts.{stops_of_cuts}
use Rattle.cg_thermo.proofs.stopping.stops.Goals as goal

pub returns-clause-stops : goal.returns-clause-stops
returns-clause-stops g c =
    let p = c.summary-summary.result.now in
    let P : Game → Type 0 = λ z. StopsAre z (record { left = p.high.at; right = p.low.at }) in
    subst P c.in_ok-game.ensures.game.is (stops_of_cuts _ p (rw c.arena.ensures at c.summary-summary.ensures.summary).cuts)

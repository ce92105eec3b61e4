use Rattle.std.proofs.Common.{◌<◌, ◌∙◌, subst}
use Rattle.cg_canon.specs.Works.{work_state}
use Rattle.cg_nodes.specs.Games.{IsGame}
use Rattle.cg_call_rows.proofs.Games.{one_of}
use Rattle.cg_call_rows.proofs.desk.Desk.game.Goals as goal

pub returns-then-index-len : goal.returns-then-index-len
returns-then-index-len g c =
    subst (λ w. IsGame (work_state g.S.CellStore.state w) c.index.result.now) c.self.view_is
    (one_of (work_state g.S.CellStore.state c.self.inside.work) c.self.inside.games.items c.in_ok-index.index c.index.result.now
    c.self.invariant (subst (λ n. c.in_ok-index.index < n) (c.len.ensures ∙ c.self.inside.games.ok.0) c.if-index-len.true) c.index.ensures)

use Rattle.std.proofs.Common.{subst, sym}
use Rattle.cg_canon.specs.Works.{work_state}
use Rattle.cg_nodes.specs.Games.{IsGame}
use Rattle.cg_call_rows.proofs.Games.{one_more}
use Rattle.cg_call_rows.proofs.desk.Desk.keep.Goals as goal

pub invariant_of-self-2 : goal.invariant_of-self-2
invariant_of-self-2 g c =
    one_more (work_state g.S.CellStore.state c.self.inside.work) c.self.inside.games.items c.push.new.self.items c.args.handle
    c.self.invariant
    (subst (λ w. IsGame (work_state g.S.CellStore.state w) c.args.handle) (sym c.self.view_is) c.requires)
    c.in_ok-push.ensures.items

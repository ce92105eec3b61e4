use Rattle.cg_canon.specs.Works.{work_state}
use Rattle.cg_call_rows.proofs.Games.{one_more}
use Rattle.cg_call_rows.proofs.desk.Desk.games.Goals as goal

pub loop-word-preserved : goal.loop-word-preserved
loop-word-preserved g c =
    one_more (work_state g.S.CellStore.state c.args.self.now) c.loop-word.all.items c.push.new.self.items c.in_ok-handle.handle
    c.loop-word.invariant c.in_ok-handle.ensures c.in_ok-push.ensures.items

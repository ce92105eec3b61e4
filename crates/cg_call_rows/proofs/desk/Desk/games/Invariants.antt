use Rattle.cg_canon.specs.Works.{work_state}
use Rattle.cg_nodes.specs.Games.{AreGames}
use Rattle.cg_call_rows.proofs.desk.Desk.games.Given as goal

abbrev pub invariant-loop-word : goal.invariant-loop-word
invariant-loop-word g l = AreGames (work_state g.S.CellStore.state l.self) l.all.items

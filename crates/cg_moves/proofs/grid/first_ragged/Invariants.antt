use Rattle.cg_moves.proofs.TextLemmas.{RaggedFrom}
use Rattle.cg_moves.proofs.grid.first_ragged.Given as goal

abbrev pub invariant-loop-start : goal.invariant-loop-start
invariant-loop-start l = RaggedFrom l.columns l.text l.start l.row l.later

abbrev pub decreases-loop-start : goal.decreases-loop-start
decreases-loop-start l = l.start

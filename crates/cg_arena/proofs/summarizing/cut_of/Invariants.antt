use Rattle.cg_arena.proofs.LeaderSteps.{IsLeader}
use Rattle.cg_arena.proofs.summarizing.cut_of.Given as goal

abbrev pub invariant-loop-option : goal.invariant-loop-option
invariant-loop-option l = IsLeader l.arena l.left l.options l.option-index l.best

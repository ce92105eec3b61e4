use Rattle.std.proofs.Common.{[], ◌∷◌}
use Rattle.cg_grammar.proofs.LongestRun.{part_splits, tree_splits}
use Rattle.cg_grammar.proofs.RepeatedRuns.{fresh_of}
use Rattle.cg_grammar.proofs.laws.longest_run.Goals as goal

pub returns-clause-tree : goal.returns-clause-tree
returns-clause-tree c side row rows within none = tree_splits side row rows within (fresh_of [] (row ∷ rows) none)

pub returns-clause-lengths : goal.returns-clause-lengths
returns-clause-lengths c side rows within none = part_splits 8 side rows within (fresh_of [] rows none)

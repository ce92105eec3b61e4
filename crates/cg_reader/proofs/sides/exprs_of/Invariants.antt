use Rattle.std.proofs.Common.{◌≡◌, map}
use Rattle.cg_grammar.specs.Braces.{side_trees}
use Rattle.cg_query.specs.Trees.{tree_of}
use Rattle.cg_reader.specs.Views.{found_of}
use Rattle.cg_reader.proofs.sides.exprs_of.Given as goal

abbrev pub invariant-loop-found : goal.invariant-loop-found
invariant-loop-found l = map tree_of l.exprs.items ≡ side_trees (map found_of l.yielded)

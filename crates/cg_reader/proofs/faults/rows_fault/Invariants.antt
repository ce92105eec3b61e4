use Rattle.std.proofs.Common.{◌≡◌, [], map, take, drop}
use Rattle.cg_grammar.specs.Braces.{runs_fault}
use Rattle.cg_reader.specs.Views.{rows_of, run_length}
use Rattle.cg_reader.proofs.faults.rows_fault.Given as goal

abbrev pub invariant-loop-index : goal.invariant-loop-index
invariant-loop-index l = runs_fault (map run_length (take l.index l.rows)) (rows_of (drop l.index l.rows)) ≡ runs_fault [] (rows_of l.rows)

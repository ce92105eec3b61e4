use Rattle.std.proofs.Common.{◌≡◌, ◌≤◌, List}
use Rattle.cg_grammar.specs.Braces.{part_of}
use Rattle.cg_grammar.specs.Found.{Found}
use Rattle.cg_reader.specs.Views.{rows_of}
use Rattle.cg_reader.proofs.split.longest.Given as goal

abbrev pub invariant-loop-bars : goal.invariant-loop-bars
invariant-loop-bars l = record {
  within : l.bars ≤ l.fn.most;
  same : (side : List Found) → part_of l.fn.most side (rows_of l.rows) ≡ part_of l.bars side (rows_of l.rows);
}

abbrev pub decreases-loop-bars : goal.decreases-loop-bars
decreases-loop-bars l = l.bars

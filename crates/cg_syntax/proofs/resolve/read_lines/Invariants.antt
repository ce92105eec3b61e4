use Rattle.std.proofs.Common.{◌+◌, ◌≤◌, length}
use Rattle.cg_syntax.specs.Bound.{IsSound}
use Rattle.cg_syntax.specs.SessionLines.{answered_from, lines_of}
use Rattle.cg_syntax.proofs.SessionSteps.{GoesOn}
use Rattle.cg_syntax.proofs.resolve.read_lines.Given as goal

abbrev pub invariant-loop-rest : goal.invariant-loop-rest
invariant-loop-rest l = record {
  bound : l.number + length l.rest ≤ length l.fn.text + 2;
  within : length l.sheet.lines.items ≤ l.fn.most;
  sound : IsSound l.sheet;
  goes_on : GoesOn l.fn.format (answered_from l.fn.first (lines_of l.fn.text)) l.number (lines_of l.rest) l.sheet;
}

abbrev pub decreases-loop-rest : goal.decreases-loop-rest
decreases-loop-rest l = length l.rest

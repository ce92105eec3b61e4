use Rattle.std.proofs.Common.{ℕ, ◌≤◌, drop, map}
use Rattle.cg_session.specs.Outputs.{AreReplies, output_of}
use Rattle.cg_syntax.specs.SessionViews.{line_of}
use Rattle.cg_session.proofs.Outputs.{Completes}
use Rattle.cg_session.proofs.output.make_output.Given as goal

abbrev pub invariant-loop-i : goal.invariant-loop-i
invariant-loop-i l = record {
  few : l.out.refused ≤ l.i;
  completes : (share positions : ℕ) → AreReplies share positions (map line_of l.fn.lines) l.fn.answers
      → Completes share positions (drop l.i (map line_of l.fn.lines)) (output_of l.out) (map line_of l.fn.lines);
}

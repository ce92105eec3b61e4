use Rattle.std.proofs.Common.{◌≡◌, ◌++◌}
use Rattle.std.specs.Prelude.{replicate}
use Rattle.cg_writer.proofs.write_tokens.push_run.Given as goal

abbrev pub invariant-loop-written : goal.invariant-loop-written
invariant-loop-written l = l.text.items ≡ l.fn.text.items ++ replicate l._written l.byte

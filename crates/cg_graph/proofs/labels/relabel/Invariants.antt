use Rattle.std.proofs.Common.{◌≡◌, ℕ, ◌<◌, ◌≤◌, length}
use Rattle.std.specs.Prelude.{slice_index}
use Rattle.cg_graph.specs.Labels.{relabelled}
use Rattle.cg_graph.proofs.labels.relabel.Given as goal

abbrev pub invariant-loop-i : goal.invariant-loop-i
invariant-loop-i l = record {
  long : length l.labels ≡ length l.fn.labels;
  done : (k : ℕ) → k < l.i → slice_index l.labels k ≡ relabelled l.old l.new (slice_index l.fn.labels k);
  left : (k : ℕ) → l.i ≤ k → slice_index l.labels k ≡ slice_index l.fn.labels k;
}

use Rattle.std.proofs.Common.{◌≡◌, ℕ, ◌<◌, length}
use Rattle.std.specs.Prelude.{slice_index}
use Rattle.cg_graph.proofs.labels.own_labels.Given as goal

abbrev pub invariant-loop-byte : goal.invariant-loop-byte
invariant-loop-byte l = record {
  long : length l.labels ≡ 91;
  own : (k : ℕ) → k < l.byte → slice_index l.labels k ≡ k;
}

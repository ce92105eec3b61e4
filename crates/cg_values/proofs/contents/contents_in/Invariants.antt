use Rattle.std.proofs.Common.{◌≡◌, ◌+◌, ◌-◌, ◌*◌, ◌≤◌, ◌<◌, ◌++◌, ℕ, List, length}
use Rattle.cg_nodes.specs.Boards.{AreWritten}
use Rattle.cg_values.specs.Contents.{places_at}
use Rattle.cg_values.proofs.contents.contents_in.Given as goal

abbrev pub invariant-loop-start : goal.invariant-loop-start
invariant-loop-start l = record {
  inside : l.start ≤ l.size;
  full : l.start < l.size → 16 * length l.all.items ≡ l.start;
  few : 16 * length l.all.items ≤ l.start + 15;
  written : (more : List ℕ) → AreWritten (places_at l.planes l.start (l.size - l.start)) more
      → AreWritten (places_at l.planes 0 l.size) (l.all.items ++ more);
}

abbrev pub decreases-loop-start : goal.decreases-loop-start
decreases-loop-start l = l.size - l.start

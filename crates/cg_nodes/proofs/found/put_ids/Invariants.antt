use Rattle.std.proofs.Common.{◌==◌, ℕ, IsTrue, ◌↔◌, take}
use Rattle.std.specs.HashSet.{contains}
use Rattle.cg_cells.specs.Meaning.{Has}
use Rattle.cg_nodes.proofs.found.put_ids.Given as goal

abbrev pub invariant-loop-handle : goal.invariant-loop-handle
invariant-loop-handle l = (k : ℕ) → IsTrue (contains (λ a b. a == b) l.ids k) ↔ Has (take l.handle-index l.handles) k

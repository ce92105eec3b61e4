-- Labels of vertices: the code gives each vertex a number, one number to all that edges connect.
use Rattle.std.specs.Prelude.{ℕ, ◌≡◌, ◌<◌, ◌==◌, if◌then◌else◌, List, length, slice_index}
use Rattle.cg_graph.specs.Paths.{Edge, connected}

-- a label for each byte up to `Z`: two have one label where a path of the edges leads from one to the other
pub record AreLabels (labels : List ℕ) (edges : List Edge) : Type 0 where
  pub long : length labels ≡ 91
  pub same : (u v : ℕ) → u < 91 → v < 91 → (slice_index labels u == slice_index labels v) ≡ connected edges u v

-- the new label in the place of the old one
abbrev pub relabelled : ℕ → ℕ → ℕ → ℕ
relabelled old new label = if label == old then new else label

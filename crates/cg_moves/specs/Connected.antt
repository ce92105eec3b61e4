-- Edges between vertices, and which vertices they connect.
use Rattle.std.specs.Prelude.{ℕ, ◌==◌, ◌&&◌, ◌||◌, Bool, List, [], ◌∷◌}

-- an edge between two vertices, which may be one
pub record Edge : Type 0 where
  pub one : ℕ
  pub other : ℕ

-- a path of these edges leads from u to v: without the first edge, or over it once, one way or the other
abbrev pub connected : List Edge → ℕ → ℕ → Bool
connected [] u v = u == v
connected (e ∷ es) u v =
    connected es u v || (connected es u e.one && connected es e.other v) || (connected es u e.other && connected es e.one v)

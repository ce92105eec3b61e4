-- Contents in cells.
use Rattle.std.specs.Prelude.{◌≡◌, ℕ, Option, Some, None, List, [], ◌∷◌}
use Rattle.cg_cells.specs.Store.{State, thing_at}
use Rattle.cg_nodes.specs.Meant.{Meant, contents}

-- the id of a chunk, or none for no contents, stands for the contents
abbrev pub ChunksAs : {R : Type 0} → State Meant R → Option ℕ → List ℕ → Type 0
ChunksAs {R} s None cs = cs ≡ []
ChunksAs {R} s (Some id) [] = ⊥
ChunksAs {R} s (Some id) (c ∷ cs) = thing_at s id ≡ Some (contents (c ∷ cs))

abbrev pub contents_or : Option Meant → List ℕ
contents_or (Some (contents cs)) = cs
contents_or _ = []

-- the contents that the id of a chunk stands for
abbrev pub chunked : {R : Type 0} → State Meant R → Option ℕ → List ℕ
chunked {R} s None = []
chunked {R} s (Some id) = contents_or (thing_at s id)

abbrev pub IsChunks : {R : Type 0} → State Meant R → Option ℕ → Type 0
IsChunks {R} s o = ChunksAs s o (chunked s o)

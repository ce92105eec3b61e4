-- Boards that are put behind others.
use Rattle.std.specs.Prelude.{◌≡◌, ◌⊎◌, ℕ, ◌<◌, List, All}
use Rattle.std.specs.Int.{bit_at}
use Rattle.cg_moves.specs.Grid.{Grid, IsLike}
use Rattle.cg_moves.specs.Rules.{In}
use Rattle.cg_moves.specs.Rising.{cells_of}

-- the new boards have the old ones' cells and all those of this kind, and no others, and are still like the board p
pub record Takes (p : Grid) (old new : List Grid) (Kind : List ℕ → Type 0) : Type 0 where
  pub like : All (IsLike p) old → All (IsLike p) new
  pub kept : (z : List ℕ) → In z (cells_of old) → In z (cells_of new)
  pub taken : (z : List ℕ) → Kind z → In z (cells_of new)
  pub only : (z : List ℕ) → In z (cells_of new) → In z (cells_of old) ⊎ Kind z

-- of the kind of a place, where the word has bit 1
abbrev pub IfMarked : ℕ → (ℕ → List ℕ → Type 0) → ℕ → List ℕ → Type 0
IfMarked word Kind i z = (bit_at word i ≡ 1) × Kind i z

-- of the kind of one of the first n places, where the word has bit 1
pub record AnyMarked (word : ℕ) (Kind : ℕ → List ℕ → Type 0) (n : ℕ) (z : List ℕ) : Type 0 where
  pub place : ℕ
  pub below : place < n
  pub is : IfMarked word Kind place z

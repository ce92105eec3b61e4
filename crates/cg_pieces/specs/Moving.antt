-- Cells on which some player has a move, in words too, and the pieces of their sets.
use Rattle.std.specs.Prelude.{◌≡◌, ℕ, ◌<◌, ◌||◌, Bool, true, if◌then◌else◌, List, [], ◌∷◌, length, Contains}
use Rattle.std.specs.Int.{bit_at}
use Rattle.cg_moves.specs.declared.player.Player.TheVariants.{Left, Right}
use Rattle.cg_moves.specs.Grid.{Grid}
use Rattle.cg_moves.specs.PlaneBits.{index_of}
use Rattle.cg_pieces.specs.Boxes.{cropped}
use Rattle.cg_pieces.specs.Neighbours.{Neighbours, are_joined, is_below, is_beside, is_first, may_move}

-- the second cell is directly below the first, or next in its row
abbrev pub is_behind : Grid → ℕ → ℕ → Bool
is_behind p k l = is_below p.columns k l || is_beside p.columns k l

-- the symbol is in the row of symbols, and this is its index
pub record IsIndex (symbols : List ℕ) (symbol index : ℕ) : Type 0 where
  pub contained : Contains symbols symbol
  pub value : index ≡ index_of symbols symbol

module _ (n : Neighbours) where
  -- some player has a move on the two cells, whichever is the first
  abbrev pub moves_between : Grid → ℕ → ℕ → Bool
  moves_between p k l =
      (may_move n Left p k l || may_move n Right p k l) || (may_move n Left p l k || may_move n Right p l k)

  -- a second cell, with which some player has a move on this one
  pub record MovesWith (p : Grid) (k : ℕ) : Type 0 where
    pub other : ℕ
    pub inside : other < length p.cells
    pub move : moves_between p k other ≡ true

  -- the cells on which some player has a move together with the cell below or the next one in the row
  pub record AreMoving (p : Grid) (word : ℕ) : Type 0 where
    pub only : (k : ℕ) → bit_at word k ≡ 1 → MovesWith p k
    pub all : (k l : ℕ) → is_behind p k l ≡ true → moves_between p k l ≡ true → bit_at word k ≡ 1

  -- the piece of the set of which this is the first cell, if it is one and some player has a move in the set
  abbrev pub piece_at : Grid → ℕ → List Grid
  piece_at p k = if is_first n p k then cropped n.blank (are_joined n p k) p ∷ [] else []

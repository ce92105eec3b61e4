-- Parts of a move: a shot, a move of one queen, and one of the queens that stand first.
use Rattle.std.specs.Prelude.{◌≡◌, ℕ, ◌<◌, List, slice_index, slice_set}
use Rattle.cg_amazons.specs.Amazons.{Reaches, blocked, with_queen}

-- the board after an arrow is shot from this cell
pub record IsShot (columns : ℕ) (cells : List ℕ) (from : ℕ) (after : List ℕ) : Type 0 where
  pub target : ℕ
  pub shot : Reaches columns cells from target
  pub written : after ≡ slice_set cells target blocked

-- the board after the queen q on this cell moves and shoots
pub record IsQueenMove (columns q : ℕ) (cells : List ℕ) (from : ℕ) (after : List ℕ) : Type 0 where
  pub to : ℕ
  pub moved : Reaches columns cells from to
  pub shot : IsShot columns (with_queen cells from to q) to after

-- the board after a queen q on one of the cells below `most` moves and shoots
pub record IsMoveBelow (columns q : ℕ) (cells : List ℕ) (most : ℕ) (after : List ℕ) : Type 0 where
  pub from : ℕ
  pub below : from < most
  pub own : slice_index cells from ≡ q
  pub moves : IsQueenMove columns q cells from after

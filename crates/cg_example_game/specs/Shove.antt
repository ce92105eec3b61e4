-- Shove. Albert, Nowakowski and Wolfe, Lessons in Play (2007): on a strip of cells a player moves one of their pieces one cell
-- to the left, and with it all pieces to its left; a piece that leaves the strip is out of the game.
use Rattle.std.specs.Prelude.{ℕ, suc, ◌+◌, ◌==◌, if◌then◌else◌, List, [], ◌∷◌, None, codes, length, slice_index}
use Rattle.std.specs.List.{flat_map, insert, remove}
use Rattle.std.specs.Str.{bytes_eq}
use Rattle.cg_moves.specs.declared.player.Player.{Player}
use Rattle.cg_moves.specs.declared.player.Player.TheVariants.{Left, Right}
use Rattle.cg_moves.specs.Grid.{Grid}
use Rattle.cg_moves.specs.Rising.{counted}
use Rattle.cg_moves.specs.Rules.{GameRules}

-- `.`
abbrev pub empty : ℕ
empty = 46

-- `x` and `o`
abbrev pub piece : Player → ℕ
piece Left = 120
piece Right = 111

-- the strip after the piece on this cell is shoved: the first cell is gone, and an empty one stands where the piece stood
abbrev pub shoved : List ℕ → ℕ → List ℕ
shoved cells at = insert (remove cells 0) at empty

-- the player's moves with the piece on this cell: one, if it is theirs
abbrev pub moves_at : Player → Grid → ℕ → List (List ℕ)
moves_at player p at = if slice_index p.cells at == piece player then shoved p.cells at ∷ [] else []

-- the sum of the places of all pieces, where the first cell has this place
abbrev pub places : ℕ → List ℕ → ℕ
places first [] = 0
places first (c ∷ cells) = (if c == empty then 0 else first) + places (suc first) cells

-- A strip is the cells of a board, row by row. Each piece that moves comes one place nearer to the end
abbrev pub shove : GameRules
shove = record {
  has = λ p. bytes_eq p.symbols (codes ".xo");
  moves = λ player p. flat_map (moves_at player p) (counted 0 (length p.cells));
  measure = λ p. places 1 p.cells;
  number = 0;
  cut = None;
}

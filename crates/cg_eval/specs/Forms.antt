-- What board cells stand for.
use Rattle.std.specs.Prelude.{ℕ, ◌*◌, ◌/◌, ◌%◌, ◌==◌, if◌then◌else◌, zero, suc, pos, List, [], ◌∷◌, map, take, codes, slice_index}
use Rattle.std.specs.List.{flat_map}
use Rattle.cg_dyadic.specs.Number.{whole}
use Rattle.cg_form.specs.Game.{Game, number}
use Rattle.cg_moves.specs.Grid.{Grid}
use Rattle.cg_moves.specs.Raw.{raw}
use Rattle.cg_domineering.specs.Moves.{domineering}
use Rattle.cg_clobber.specs.Moves.{clobber}
use Rattle.cg_amazons.specs.Amazons.{amazons}
use Rattle.cg_strip.specs.Toads.{toads_game}

-- the row of symbols of the game with this number: 1 is Domineering, 2 Clobber, 3 Amazons, 4 Toads
abbrev pub symbol_row : ℕ → List ℕ
symbol_row n =
    if n == 1 then codes ".#" else if n == 2 then codes ".xo" else if n == 3 then codes ".xo#"
    else if n == 4 then codes ".TF" else []

-- so many fields of two bits each, from the least on
abbrev pub fields : ℕ → ℕ → List ℕ
fields zero content = []
fields (suc n) content = content % 4 ∷ fields n (content / 4)

-- the board of the game with this number that is written in the contents, 16 cells in each
abbrev pub board_in : ℕ → ℕ → ℕ → List ℕ → Grid
board_in n rows columns contents = record {
  rows = rows;
  columns = columns;
  symbols = symbol_row n;
  cells = map (slice_index (symbol_row n)) (take (rows * columns) (flat_map (fields 16) contents));
}

-- the tree of all moves from the board that is written in the contents: 1 is Domineering, 2 Clobber, 3 Amazons and 4 Toads
-- and Frogs. Cells of other numbers, of which there are none, have the form 0
abbrev pub board_form : ℕ → ℕ → ℕ → List ℕ → Game
board_form n rows columns contents =
    if n == 1 then raw domineering (board_in n rows columns contents)
    else if n == 2 then raw clobber (board_in n rows columns contents)
    else if n == 3 then raw amazons (board_in n rows columns contents)
    else if n == 4 then raw toads_game (board_in n rows columns contents) else number (whole (pos 0))

-- The places of the symbols of cells in a row of at most 4 symbols, from words.
use Rattle.std.specs.Prelude.{ℕ, zero, suc, ◌+◌, ◌*◌, ◌/◌, ◌%◌, List, map}
use Rattle.std.specs.Int.{bit_at}
use Rattle.std.specs.List.{range_with_len}
use Rattle.cg_moves.specs.declared.planes.Planes.{Planes}

-- what the first two words have at the cell
abbrev pub place_at : Planes → ℕ → ℕ
place_at w cell = bit_at w.a cell + 2 * bit_at w.b cell

-- what they have at so many cells, from this one on
abbrev pub places_at : Planes → ℕ → ℕ → List ℕ
places_at w cell count = map (place_at w) (range_with_len cell count)

-- the number with bit i of this one at place 2i, for so many bits
abbrev pub apart : ℕ → ℕ → ℕ
apart zero bits = 0
apart (suc count) bits = bits % 2 + 4 * apart count (bits / 2)

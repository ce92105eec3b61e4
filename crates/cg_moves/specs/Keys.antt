-- The keys of boards, for look-ups.
use Rattle.std.specs.Prelude.{ℕ, ◌+◌, ◌*◌, ◌/◌, ◌%◌, ◌^◌, ◌==◌, ◌&&◌, Bool, List, [], ◌∷◌, bit_xor}
use Rattle.std.specs.Int.{bit_at}
use Rattle.cg_moves.specs.declared.key.BoardKey.{BoardKey}
use Rattle.cg_moves.specs.declared.planes.Planes.{Planes}
use Rattle.cg_moves.specs.Grid.{Grid, IsGrid}
use Rattle.cg_moves.specs.PlaneBits.{index_of}
use Rattle.cg_moves.specs.Rules.{In}

-- bit b of the index of each cell's symbol, the first cell's in the least bit
abbrev pub word_of : List ℕ → ℕ → List ℕ → ℕ
word_of symbols b [] = 0
word_of symbols b (c ∷ cells) = bit_at (index_of symbols c) b + 2 * word_of symbols b cells

-- the words 0 to 3 of these cells
abbrev pub words_of : List ℕ → List ℕ → Planes
words_of symbols cells = record {
  a = word_of symbols 0 cells;
  b = word_of symbols 1 cells;
  c = word_of symbols 2 cells;
  d = word_of symbols 3 cells;
}

-- the rows, columns and words of a board, which tell it from others with the same symbols
abbrev pub key_of : Grid → BoardKey
key_of p = record { rows = p.rows; columns = p.columns; planes = words_of p.symbols p.cells }

-- a number for the key
abbrev pub key_number : BoardKey → ℕ
key_number k =
    let word = λ (x times : ℕ). x * times % 18446744073709551616 in
    let size = bit_xor (word k.rows 15485907386658061715) (word k.columns 11694633085474628615) in
    let low = bit_xor (word k.planes.a 11400714819323198485) (word k.planes.b 14029467366897019727) in
    let high = bit_xor (word k.planes.c 1609587929392839161) (word k.planes.d 9650029242287828579) in
    bit_xor (bit_xor size low) high / 2 ^ 32

-- whether the two are one key
abbrev pub key_eq : BoardKey → BoardKey → Bool
key_eq j k = (j.rows == k.rows) && ((j.columns == k.columns) && ((j.planes.a == k.planes.a) && ((j.planes.b == k.planes.b)
    && ((j.planes.c == k.planes.c) && (j.planes.d == k.planes.d)))))

-- each of the list is a board
abbrev pub AreGrids : List Grid → Type 0
AreGrids ps = (p : Grid) → In p ps → IsGrid p

-- What a text says of the board that it reads as.
use Rattle.std.proofs.Common.{◌≡◌, refl, ℕ, ◌+◌, ◌*◌, ◌<◌, ◌/◌, ◌==◌, arith, Bool, true, false, Option, Some, None, Result, Ok, List}
use Rattle.std.proofs.Common.{if◌then◌else◌, length, nat_lt, eq-eqb}
use Rattle.std.specs.Prelude.{bytes_eq, position}
use Rattle.std.specs.List.{flat_map}
use Rattle.std.specs.Cmp.Lexicographic.{bytes_decides}
use Rattle.std.proofs.lemmas.Bool.{and_from, lt-ltb}
use Rattle.std.proofs.lemmas.Bool.Decides.{nat_tests}
use Rattle.cg_moves.specs.declared.fault.BoardFault.{BoardFault}
use Rattle.cg_moves.specs.declared.fault.BoardFault.TheVariants.{Symbol, Empty, Ragged, Large}
use Rattle.cg_moves.specs.Grid.{Grid}
use Rattle.cg_moves.specs.Texts.{first_row, is_foreign, next_place, ragged, read_of, refused_at, rows_of}
use Rattle.cg_moves.proofs.TextLemmas.{not-ragged}
use Rattle.cg_moves.specs.Grid.{is_in_rows}

-- the rows, the columns and the symbols of the board that is read
pub record IsReadBy (symbols : List ℕ) (one_row : Bool) (text : List ℕ) (p : Grid) : Type 0 where
  pub symbols_are : p.symbols ≡ symbols
  pub rows_are : p.rows ≡ length (rows_of one_row text)
  pub wide : 0 < p.columns
  pub size : length p.cells ≡ p.rows * p.columns

-- a reading that isn't refused goes on
passed : (fault : ℕ → BoardFault) (place : Option ℕ) (rest : Result Grid BoardFault) (p : Grid)
    → refused_at fault place rest ≡ Ok p → (place ≡ None) × (rest ≡ Ok p)
passed fault None rest p e = (refl, e)
passed fault (Some k) rest p e = absurd (cc)

abbrev place_if : Bool → Option ℕ
place_if t = if t then Some 1 else None

some_column : (n : ℕ) → place_if (n == 0) ≡ None → 0 < n
some_column n e = by (n == 0) refl e
  where
    none_some : (x : ℕ) → Some x ≡ None → ⊥
    none_some x h = cc

    not_zero : (n == 0) ≡ false → 0 < n
    not_zero f = grind (arith, nat_tests)

    by : (t : Bool) → (n == 0) ≡ t → place_if t ≡ None → 0 < n
    by true t h = absurd (none_some 1 h)
    by false f h = not_zero f

abbrev grid_read : Grid → Result Grid BoardFault
grid_read p = Ok p

same_grid : (q r : Grid) → grid_read q ≡ grid_read r → q ≡ r
same_grid q r e = cc

pub read-by : (symbols : List ℕ) (one_row : Bool) (text : List ℕ) (p : Grid) → read_of symbols one_row text ≡ Ok p
    → IsReadBy symbols one_row text p
read-by symbols one_row text p e =
    let rows = rows_of one_row text in
    let columns = length (first_row rows) in
    let cells = flat_map (λ (row : List ℕ). row) rows in
    let foreign = next_place (position (is_foreign one_row symbols) text) in
    let empty : Option ℕ = if columns == 0 then Some 1 else None in
    let other = ragged columns 1 rows in
    let large : Option ℕ = if nat_lt 64 (length cells) then Some (65 + 64 / columns) else None in
    let grid : Grid = record { rows = length rows; columns = columns; symbols = symbols; cells = cells } in
    let read : Result Grid BoardFault = Ok grid in
    let a = passed Symbol foreign (refused_at Empty empty (refused_at Ragged other (refused_at Large large read))) p e in
    let b = passed Empty empty (refused_at Ragged other (refused_at Large large read)) p a.1 in
    let c = passed Ragged other (refused_at Large large read) p b.1 in
    let d = passed Large large read p c.1 in
    rw (← (same_grid grid p d.1)) (record {
      symbols_are = refl;
      rows_are = refl;
      wide = some_column columns b.0;
      size = not-ragged columns 1 rows c.0;
    })

-- its cells stand in rows and columns
pub in-rows : (symbols : List ℕ) (one_row : Bool) (text : List ℕ) (p : Grid) → IsReadBy symbols one_row text p
    → is_in_rows p ≡ true
in-rows symbols one_row text p r = and_from (nat_lt 0 p.columns) (length p.cells == p.rows * p.columns)
    (lt-ltb 0 p.columns r.wide) (eq-eqb (length p.cells) (p.rows * p.columns) r.size)

pub same-symbols : (symbols : List ℕ) (one_row : Bool) (text : List ℕ) (p : Grid) → IsReadBy symbols one_row text p
    → bytes_eq p.symbols symbols ≡ true
same-symbols symbols one_row text p r = (bytes_decides p.symbols symbols).1 r.symbols_are

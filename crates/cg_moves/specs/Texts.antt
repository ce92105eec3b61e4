-- Boards as texts: the symbols of their cells, row by row, with a bar between rows.
use Rattle.std.specs.Prelude.{◌≡◌, ℕ, zero, suc, ◌+◌, ◌/◌, ◌==◌, ◌&&◌, ◌||◌, Bool, not, nat_lt, if◌then◌else◌, Option}
use Rattle.std.specs.Prelude.{Some, None, Result, Ok, Err, List, [], ◌∷◌, ◌++◌, drop, length, position, take}
use Rattle.std.specs.List.{flat_map, list_any}
use Rattle.cg_moves.specs.declared.fault.BoardFault.{BoardFault}
use Rattle.cg_moves.specs.declared.fault.BoardFault.TheVariants.{Symbol, Empty, Ragged, Large}
use Rattle.cg_moves.specs.Grid.{Grid}

-- `|`
abbrev pub bar : ℕ
bar = 124

-- the rows with the symbol in front of the first
abbrev pub in_front : ℕ → List (List ℕ) → List (List ℕ)
in_front c [] = (c ∷ []) ∷ []
in_front c (row ∷ rows) = (c ∷ row) ∷ rows

-- the text cut at each bar
abbrev pub cut : List ℕ → List (List ℕ)
cut [] = [] ∷ []
cut (c ∷ cs) = if c == bar then [] ∷ cut cs else in_front c (cut cs)

-- the rows of a text. Where it has one row, a bar is a byte like others
abbrev pub rows_of : Bool → List ℕ → List (List ℕ)
rows_of one_row text = if one_row then text ∷ [] else cut text

abbrev pub first_row : List (List ℕ) → List ℕ
first_row [] = []
first_row (row ∷ rows) = row

-- the cells of the rows, row by row
abbrev pub cells_of : List (List ℕ) → List ℕ
cells_of rows = flat_map (λ row. row) rows

-- the byte is no symbol, nor is the text cut there
abbrev pub is_foreign : Bool → List ℕ → ℕ → Bool
is_foreign one_row symbols c = not (list_any (λ s. s == c) symbols || (not one_row && (c == bar)))

-- the place at which the first row starts that isn't so long, where the first of the rows starts at this place
abbrev pub ragged : ℕ → ℕ → List (List ℕ) → Option ℕ
ragged columns start [] = None
ragged columns start (row ∷ rows) =
    if length row == columns then ragged columns (start + length row + 1) rows else Some start

abbrev pub next_place : Option ℕ → Option ℕ
next_place None = None
next_place (Some i) = Some (i + 1)

-- the refusal at the place, if there is one, and else what follows
abbrev pub refused_at : (ℕ → BoardFault) → Option ℕ → Result Grid BoardFault → Result Grid BoardFault
refused_at fault None rest = rest
refused_at fault (Some place) rest = Err (fault place)

-- the places of the cells of a text, whose first byte stands at this place
abbrev pub cell_places : Bool → ℕ → List ℕ → List ℕ
cell_places one_row place [] = []
cell_places one_row place (c ∷ cs) =
    if one_row || not (c == bar) then place ∷ cell_places one_row (suc place) cs else cell_places one_row (suc place) cs

-- What a text reads as, with places counted from 1. The first of these refusals that applies: a byte that is no symbol; a
-- first row without a cell; a row of another length than the first; a 65th cell, before which there is a bar for each whole
-- row, so that its place is this: the law function `large`
abbrev pub read_of : List ℕ → Bool → List ℕ → Result Grid BoardFault
read_of symbols one_row text =
    let rows = rows_of one_row text in
    let columns = length (first_row rows) in
    let cells = cells_of rows in
    refused_at Symbol (next_place (position (is_foreign one_row symbols) text))
    (refused_at Empty (if columns == 0 then Some 1 else None)
    (refused_at Ragged (ragged columns 1 rows)
    (refused_at Large (if nat_lt 64 (length cells) then Some (65 + 64 / columns) else None)
    (Ok (record { rows = length rows; columns = columns; symbols = symbols; cells = cells })))))

-- ---- boards written as texts

-- the cells in so many rows of so many columns
abbrev pub in_rows : ℕ → ℕ → List ℕ → List (List ℕ)
in_rows zero columns cells = []
in_rows (suc rows) columns cells = take columns cells ∷ in_rows rows columns (drop columns cells)

-- each row behind a bar
abbrev pub behind_bars : List (List ℕ) → List ℕ
behind_bars rows = flat_map (λ row. bar ∷ row) rows

-- the rows with a bar between them
abbrev pub joined : List (List ℕ) → List ℕ
joined [] = []
joined (row ∷ rows) = row ++ behind_bars rows

-- the text of a board: its rows with a bar between them
abbrev pub text_of : Grid → List ℕ
text_of p = joined (in_rows p.rows p.columns p.cells)

-- a text reads as the board
abbrev pub ReadsBack : Grid → Bool → List ℕ → Type 0
ReadsBack p one_row text = read_of p.symbols one_row text ≡ Ok p

-- Where a text is refused as too large, the place is that of the 65th cell.
use Rattle.std.proofs.lemmas.Bool.Decides.{nat_tests}
use Rattle.std.proofs.Common.{◌≡◌, refl, ℕ, zero, suc, ◌+◌, ◌*◌, ◌/◌, ◌%◌, ◌<◌, ◌≤◌, ◌==◌, Bool, true, false, nat_lt, if◌then◌else◌}
use Rattle.std.proofs.Common.{Option, Some, None, Result, Ok, Err, List, [], ◌∷◌, ◌++◌, length, ap, sym, ◌∙◌, arith, append-nil}
use Rattle.std.specs.Prelude.{position, slice_get}
use Rattle.std.proofs.Math.Nat.{mod-lt, mul-le-mul_left}
use Rattle.std.proofs.lemmas.Bool.{eqb-true, ltb-true}
use Rattle.cg_moves.specs.declared.fault.BoardFault.{BoardFault}
use Rattle.cg_moves.specs.declared.fault.BoardFault.TheVariants.{Symbol, Empty, Ragged, Large}
use Rattle.cg_moves.specs.Grid.{Grid}
use Rattle.cg_moves.specs.Rising.{counted}
use Rattle.cg_moves.specs.Texts.{cell_places, cells_of, cut, first_row, in_front, is_foreign, next_place, ragged, read_of, refused_at, rows_of}
use Rattle.cg_moves.proofs.TextLemmas.{not-ragged}
use Rattle.cg_moves.proofs.Counted.{counted-length}

-- ---- elements of joined lists

at-front : (xs ys : List ℕ) (n : ℕ) → n < length xs → slice_get (xs ++ ys) n ≡ slice_get xs n
at-front [] ys n h = absurd (omega (arith, h))
at-front (x ∷ xs) ys zero h = refl
at-front (x ∷ xs) ys (suc n) h = at-front xs ys n (omega (arith, h))

at-back : (xs ys : List ℕ) (n m : ℕ) → m ≡ length xs + n → slice_get (xs ++ ys) m ≡ slice_get ys n
at-back [] ys n m e = let f : m ≡ n = omega (arith, e) in ap (slice_get ys) f
at-back (x ∷ xs) ys n zero e = absurd (omega (arith, e))
at-back (x ∷ xs) ys n (suc m) e = at-back xs ys n m (omega (arith, e))

at-counted : (i n k : ℕ) → k < n → slice_get (counted i n) k ≡ Some (i + k)
at-counted i zero k h = absurd (omega (arith, h))
at-counted i (suc n) zero h = let e : i ≡ i + 0 = omega arith in ap Some e
at-counted i (suc n) (suc k) h =
    let e : suc i + k ≡ i + suc k = omega arith in at-counted (suc i) n k (omega (arith, h)) ∙ ap Some e

-- ---- the places of the cells, row by row

row_places : ℕ → List (List ℕ) → List ℕ
row_places place [] = []
row_places place (row ∷ rows) = counted place (length row) ++ row_places (place + length row + 1) rows

places-front : (place c : ℕ) (rows : List (List ℕ)) → row_places place (in_front c rows) ≡ place ∷ row_places (suc place) rows
unfolding row_places
places-front place c [] = refl
places-front place c (row ∷ rows) = grind (arith, nat_tests, row_places)

cut-places : (place : ℕ) (text : List ℕ) → cell_places false place text ≡ row_places place (cut text)
unfolding row_places
cut-places place [] = refl
cut-places place (c ∷ cs) = grind (arith, nat_tests, row_places, places-front, cut-places (suc place) cs)

row-places : (place : ℕ) (text : List ℕ) → cell_places true place text ≡ counted place (length text)
row-places place [] = refl
row-places place (c ∷ cs) = ap (λ z. place ∷ z) (row-places (suc place) cs)

places-of : (one_row : Bool) (text : List ℕ) → cell_places one_row 1 text ≡ row_places 1 (rows_of one_row text)
unfolding row_places
places-of true text = row-places 1 text ∙ sym (append-nil (counted 1 (length text)))
places-of false text = cut-places 1 text

-- where no row is ragged, before a cell there is a bar for each whole row
abbrev StandsAt : ℕ → ℕ → ℕ → List (List ℕ) → Type 0
StandsAt columns r place rows = (q n : ℕ) → q < length rows → n ≡ columns * q + r
    → slice_get (row_places place rows) n ≡ Some (place + n + q)

one-row : (columns r place : ℕ) (row : List ℕ) (rows : List (List ℕ)) → r < columns → length row ≡ columns
    → StandsAt columns r (place + length row + 1) rows → StandsAt columns r place (row ∷ rows)
unfolding row_places
one-row columns r place row rows inside long more zero n h is =
    let below : n < length row = omega (arith, is, long, inside) in
    let own = counted-length place (length row) in
    let s : place + n ≡ place + n + 0 = omega arith in
    at-front (counted place (length row)) (row_places (place + length row + 1) rows) n (omega (arith, below, own))
    ∙ at-counted place (length row) n below ∙ ap Some s
one-row columns r place row rows inside long more (suc q) n h is =
    let m : ℕ = columns * q + r in
    let own = counted-length place (length row) in
    let step : columns * suc q ≡ columns * q + columns = omega arith in
    let split : n ≡ length row + m = omega (arith, is, long, step) in
    let s : place + length row + 1 + m + q ≡ place + n + suc q = omega (arith, split) in
    at-back (counted place (length row)) (row_places (place + length row + 1) rows) m n (omega (arith, split, own))
    ∙ more q m (omega (arith, h)) refl ∙ ap Some s

even-row : (columns start : ℕ) (row : List ℕ) (rows : List (List ℕ)) (b : Bool) → (length row == columns) ≡ b
    → (if b then ragged columns (start + length row + 1) rows else Some start) ≡ None
    → (length row ≡ columns) × (ragged columns (start + length row + 1) rows ≡ None)
even-row columns start row rows true t e = (eqb-true (length row) columns t, e)
even-row columns start row rows false t e = absurd (cc)

place-at : (columns start r place : ℕ) (rows : List (List ℕ)) → r < columns → ragged columns start rows ≡ None
    → StandsAt columns r place rows
place-at columns start r place [] inside e q n below is = absurd (omega (arith, below))
place-at columns start r place (row ∷ rows) inside e q n below is =
    let h = even-row columns start row rows (length row == columns) refl e in
    one-row columns r place row rows inside h.0
    (place-at columns (start + length row + 1) r (place + length row + 1) rows inside h.1) q n below is

-- ---- the refusal

other-fault : (fault : ℕ → BoardFault) (place : ℕ) → ((p : ℕ) → fault p ≡ Large place → ⊥) → (o : Option ℕ)
    (rest : Result Grid BoardFault) → refused_at fault o rest ≡ Err (Large place) → (o ≡ None) × (rest ≡ Err (Large place))
other-fault fault place apart None rest e = (refl, e)
other-fault fault place apart (Some p) rest e = let f : fault p ≡ Large place = cc in absurd (apart p f)

large-fault : (b : Bool) (at place : ℕ) (p : Grid) → refused_at Large (if b then Some at else None) (Ok p) ≡ Err (Large place)
    → (b ≡ true) × (at ≡ place)
large-fault true at place p e = (refl, cc)
large-fault false at place p e = absurd (cc)

abbrev empty_at : ℕ → Option ℕ
empty_at columns = if columns == 0 then Some 1 else None

some-column : (columns : ℕ) → empty_at columns ≡ None → 0 < columns
some-column zero e = absurd (cc)
some-column (suc n) e = omega arith

pub large-place : (symbols : List ℕ) (one_row : Bool) (text : List ℕ) (place : ℕ)
    → read_of symbols one_row text ≡ Err (Large place) → slice_get (cell_places one_row 1 text) 64 ≡ Some place
large-place symbols one_row text place e =
    let rows = rows_of one_row text in
    let columns = length (first_row rows) in
    let cells = cells_of rows in
    let board : Grid = record { rows = length rows; columns = columns; symbols = symbols; cells = cells } in
    let large = refused_at Large (if nat_lt 64 (length cells) then Some (65 + 64 / columns) else None) (Ok board) in
    let even = refused_at Ragged (ragged columns 1 rows) large in
    let a = other-fault Symbol place (λ p f. cc) (next_place (position (is_foreign one_row symbols) text))
    (refused_at Empty (empty_at columns) even) e in
    let b = other-fault Empty place (λ p f. cc) (empty_at columns) even a.1 in
    let c = other-fault Ragged place (λ p f. cc) (ragged columns 1 rows) large b.1 in
    let d = large-fault (nat_lt 64 (length cells)) (65 + 64 / columns) place board c.1 in
    let wide = some-column columns b.0 in
    let q : ℕ = 64 / columns in
    let r : ℕ = 64 % columns in
    let whole : 64 ≡ columns * q + r = omega arith in
    let many : 64 < length cells = ltb-true 64 (length cells) d.0 in
    let size = not-ragged columns 1 rows c.0 in
    let few : (length rows ≤ q) → ⊥ = λ h. (let m : columns * length rows ≤ columns * q = mul-le-mul_left columns h in
    omega (arith, m, many, size, whole)) in
    let s : 1 + 64 + q ≡ place = omega (arith, d.1) in
    ap (λ z. slice_get z 64) (places-of one_row text)
    ∙ place-at columns 1 r 1 rows (mod-lt 64 wide) c.0 q 64 (omega (arith, few)) whole ∙ ap Some s

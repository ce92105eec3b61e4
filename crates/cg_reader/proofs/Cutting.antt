-- Rows cut at the first run of a length.
use Rattle.std.proofs.Common.{◌≡◌, ◌≢◌, ℕ, suc, ◌+◌, List, [], ◌∷◌, ◌++◌, length, take, drop, refl}
use Rattle.std.proofs.Common.{ap, sym, ◌∙◌, append_assoc, append-nil, arith, length-append}
use Rattle.std.specs.Prelude.{remove, slice_index_or}
use Rattle.std.proofs.lemmas.Bool.{ne_eqb, eq-eqb}
use Rattle.cg_grammar.specs.Braces.{Run_side, Whole, Parts, cut_from}
use Rattle.cg_grammar.specs.Values.{run_side}
use Rattle.cg_reader.specs.Views.{row_of, rows_of, side_found}
use Rattle.cg_reader.specs.Cuts.{IsFirstRun}
use Rattle.cg_reader.specs.declared.found.Row.{Row}

-- so many rows were gone over, none of them with a run of this length
pub record Skipped (bars : ℕ) (rows rest : List Row) (place : ℕ) : Type 0 where
  pub front : List Row
  pub spelled : rows ≡ front ++ rest
  pub size : length front ≡ place
  pub cut : cut_from [] bars (rows_of rows) ≡ cut_from (rows_of front) bars (rows_of rest)

pub nothing_skipped : (bars : ℕ) (rows : List Row) → Skipped bars rows rows 0
nothing_skipped bars rows = record { front = []; spelled = refl; size = refl; cut = refl }

rows_of-append : (xs : List Row) (r : Row) → rows_of (xs ++ r ∷ []) ≡ rows_of xs ++ run_side (row_of r) ∷ []
rows_of-append [] r = refl
rows_of-append (x ∷ xs) r = ap (λ (z : List Run_side). run_side (row_of x) ∷ z) (rows_of-append xs r)

cut_off : (bars : ℕ) (front : List Run_side) (r : Row) (others : List Row) → r.bars ≢ bars → cut_from front bars (rows_of (r ∷ others)) ≡ cut_from (front
    ++ run_side (row_of r) ∷ []) bars (rows_of others)
cut_off bars front r others n = rw (ne_eqb r.bars bars n) refl

pub skip_one : (bars : ℕ) (rows rest : List Row) (place : ℕ) (r : Row) (others : List Row) → Skipped bars rows rest place → rest ≡ r ∷ others → r.bars ≢ bars →
    Skipped bars rows others (place + 1)
skip_one bars rows rest place r others s e n = record {
  front = s.front ++ r ∷ [];
  spelled = s.spelled ∙ ap (λ (z : List Row). s.front ++ z) e ∙ sym (append_assoc s.front (r ∷ []) others);
  size = length-append s.front (r ∷ []) ∙ ap (λ (k : ℕ). k + 1) s.size;
  cut = s.cut ∙ ap (λ (z : List Row). cut_from (rows_of s.front) bars (rows_of z)) e ∙ cut_off bars (rows_of s.front) r others n ∙ ap (λ (z : List Run_side).
      cut_from z bars (rows_of others)) (sym (rows_of-append s.front r));
}

cut_here : (bars : ℕ) (front : List Run_side) (r : Row) (others : List Row) → r.bars ≡ bars → cut_from front bars (rows_of (r ∷ others)) ≡ Parts front
    (side_found r.side) (rows_of others)
cut_here bars front r others h = rw (eq-eqb r.bars bars h) refl

pub found_run : (bars : ℕ) (rows rest : List Row) (place : ℕ) (r : Row) (others : List Row) → Skipped bars rows rest place → rest ≡ r ∷ others → r.bars ≡ bars →
    IsFirstRun bars rows place
found_run bars rows rest place r others s e h = record {
  front = s.front;
  row = r;
  behind = others;
  spelled = s.spelled ∙ ap (λ (z : List Row). s.front ++ z) e;
  size = s.size;
  cut = s.cut ∙ ap (λ (z : List Row). cut_from (rows_of s.front) bars (rows_of z)) e ∙ cut_here bars (rows_of s.front) r others h;
}

pub no_run : (bars : ℕ) (rows rest : List Row) (place : ℕ) → Skipped bars rows rest place → rest ≡ [] → cut_from [] bars (rows_of rows) ≡ Whole (rows_of rows)
no_run bars rows rest place s e = s.cut ∙ ap (λ (z : List Row). cut_from (rows_of s.front) bars (rows_of z)) e ∙ ap (λ (z : List Row). Whole (rows_of z))
    (sym (append-nil s.front) ∙ ap (λ (z : List Row). s.front ++ z) (sym e) ∙ sym s.spelled)

pub place_below : (bars : ℕ) (rows rest : List Row) (place : ℕ) → Skipped bars rows rest place → place + length rest ≡ length rows
place_below bars rows rest place s = omega (arith, ap length s.spelled, length-append s.front rest, s.size)

-- ---- parts of a list round one of its items

take_front : {A : Type 0} (xs : List A) (x : A) (ys : List A) → take (suc (length xs)) (xs ++ x ∷ ys) ≡ xs ++ x ∷ []
take_front [] x ys = refl
take_front (y ∷ xs) x ys = ap (λ z. y ∷ z) (take_front xs x ys)

drop_front : {A : Type 0} (xs : List A) (x : A) (ys : List A) → drop (suc (length xs)) (xs ++ x ∷ ys) ≡ ys
drop_front [] x ys = refl
drop_front (y ∷ xs) x ys = drop_front xs x ys

remove_last : {A : Type 0} (xs : List A) (x : A) → remove (xs ++ x ∷ []) (length xs) ≡ xs
remove_last [] x = refl
remove_last (y ∷ xs) x = ap (λ z. y ∷ z) (remove_last xs x)

get_last : {A : Type 0} (xs : List A) (x d : A) → slice_index_or (xs ++ x ∷ []) (length xs) d ≡ x
get_last [] x d = refl
get_last (y ∷ xs) x d = get_last xs x d

-- the two parts that rows are taken apart into at the first run of a length
pub cut_parts : (bars : ℕ) (rows before0 before behind : List Row) (place : ℕ) (row : Row) → IsFirstRun bars rows place → before0 ≡ take (place + 1) rows →
    behind ≡ drop (place + 1) rows → before ≡ remove before0 place → row ≡ slice_index_or before0 place row
    → cut_from [] bars (rows_of rows) ≡ Parts (rows_of before) (side_found row.side) (rows_of behind)
cut_parts bars rows before0 before behind place row f t d r v =
    let one : place + 1 ≡ suc (length f.front) = omega (arith, f.size) in
    let b0 : before0 ≡ f.front ++ f.row ∷ [] = t ∙ ap (λ (n : ℕ). take n rows) one ∙ ap (λ (z : List Row). take (suc (length f.front)) z) f.spelled ∙ take_front
    f.front f.row f.behind in
    let bh : behind ≡ f.behind = d ∙ ap (λ (n : ℕ). drop n rows) one ∙ ap (λ (z : List Row). drop (suc (length f.front)) z) f.spelled ∙ drop_front f.front f.row
    f.behind in
    let bf : before ≡ f.front = r ∙ ap (λ (z : List Row). remove z place) b0 ∙ ap (λ (n : ℕ). remove (f.front ++ f.row ∷ []) n) (sym f.size) ∙ remove_last
    f.front f.row in
    let rv : row ≡ f.row = v ∙ ap (λ (z : List Row). slice_index_or z place row) b0 ∙ ap (λ (n : ℕ). slice_index_or (f.front ++ f.row ∷ []) n row) (sym f.size)
    ∙ get_last f.front f.row row in
    f.cut ∙ ap (λ (z : List Row). Parts (rows_of z) (side_found f.row.side) (rows_of f.behind)) (sym bf) ∙ ap (λ (z : Row). Parts (rows_of before)
    (side_found z.side) (rows_of f.behind)) (sym rv) ∙ ap (λ (z : List Row). Parts (rows_of before) (side_found row.side) (rows_of z)) (sym bh)

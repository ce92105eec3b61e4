-- What is written on a row, cell by cell.
use Rattle.std.proofs.Common.{◌≡◌, ℕ, suc, ◌+◌, ◌<◌, ◌≤◌, List, [], ◌∷◌, ◌++◌, length, take, drop, get_or, ap, sym, ◌∙◌, arith, append_assoc, length-append}
use Rattle.std.specs.Prelude.{slice_set}
use Rattle.std.proofs.Math.Seq.{drop-cons}
use Rattle.std.proofs.lemmas.List.{length-take-le, set_at, take_more}
use Rattle.cg_moves.specs.Grid.{Grid, with_cells}

cells_more : (cells text : List ℕ) (i k d : ℕ) → k < length text → i + length text ≤ length cells
    → slice_set (take i cells ++ (take k text ++ drop (i + k) cells)) (i + k) (get_or text k d)
    ≡ take i cells ++ (take (k + 1) text ++ drop (i + (k + 1)) cells)
cells_more cells text i k d l fits =
    let here = get_or cells (i + k) 0 in
    let rest = drop (suc (i + k)) cells in
    let s = get_or text k d in
    let front = take i cells in
    let done = take k text in
    let long : length (front ++ done) ≡ i + k =
    let a = length-append front done in
    let b = length-take-le i cells (omega arith) in
    let c = length-take-le k text (omega arith) in
    omega (arith, a, b, c) in
    let up : suc (i + k) ≡ i + (k + 1) = omega arith in
    ap (λ z. slice_set (front ++ (done ++ z)) (i + k) s) (drop-cons cells (i + k) 0 (omega arith))
    ∙ ap (λ z. slice_set z (i + k) s) (sym (append_assoc front done (here ∷ rest)))
    ∙ set_at (front ++ done) here rest s (i + k) long
    ∙ append_assoc front done (s ∷ rest)
    ∙ ap (λ z. front ++ z) (sym (append_assoc done (s ∷ []) rest))
    ∙ ap (λ z. front ++ (z ++ rest)) (sym (take_more text k d l))
    ∙ ap (λ n. front ++ (take (k + 1) text ++ drop n cells)) up

-- one cell more
pub written_more : (p after new : Grid) (text : List ℕ) (i k d : ℕ) → k < length text → i + length text ≤ length p.cells
    → after ≡ with_cells p (take i p.cells ++ (take k text ++ drop (i + k) p.cells))
    → new ≡ with_cells after (slice_set after.cells (i + k) (get_or text k d))
    → new ≡ with_cells p (take i p.cells ++ (take (k + 1) text ++ drop (i + (k + 1)) p.cells))
written_more p after new text i k d l fits so_far put =
    put ∙ ap (λ (q : Grid). with_cells q (slice_set q.cells (i + k) (get_or text k d))) so_far
    ∙ ap (with_cells p) (cells_more p.cells text i k d l fits)

-- Moves gathered cell by cell.
use Rattle.std.proofs.lemmas.Bool.Decides.{nat_tests}
use Rattle.std.proofs.Common.{◌≡◌, ℕ, suc, ◌+◌, ◌*◌, ◌%◌, ◌<◌, List, [], ◌∷◌, ◌++◌, map, ap, sym, ◌∙◌, arith, append-nil}
use Rattle.std.specs.List.{flat_map}
use Rattle.std.proofs.Math.Nat.{mul-le-mul_left}
use Rattle.std.proofs.lemmas.Grind.{flat_map-append}
use Rattle.std.proofs.lemmas.List.{map-append}
use Rattle.cg_moves.specs.Rising.{counted}
use Rattle.cg_moves.proofs.Counted.{counted-next}

-- where a cell isn't the last of its row, there is a next one
pub next_in_row : (i rows columns : ℕ) → i < rows * columns → i % columns + 1 < columns → i + 1 < rows * columns
next_in_row i rows columns below inside = grind (arith, nat_tests, mul-le-mul_left)

-- ---- boards that are listed, number by number

pub listed_next : {X : Type 0} (f : List ℕ → X) (g : ℕ → List (List ℕ)) (i : ℕ) (old new : List X)
    → old ≡ map f (flat_map g (counted 0 i)) → new ≡ old ++ map f (g i) → new ≡ map f (flat_map g (counted 0 (i + 1)))
listed_next f g i old new so_far put =
    let up : suc i ≡ i + 1 = omega arith in
    let more : flat_map g (counted 0 i) ++ g i ≡ flat_map g (counted 0 (i + 1)) = ap (λ z. flat_map g (counted 0 i) ++ z) (sym (append-nil (g i)))
    ∙ sym (flat_map-append g (counted 0 i) (i ∷ [])) ∙ ap (flat_map g) (sym (counted-next i))
    ∙ ap (λ z. flat_map g (counted 0 z)) up in
    put ∙ ap (λ z. z ++ map f (g i)) so_far ∙ sym (map-append f (flat_map g (counted 0 i)) (g i)) ∙ ap (map f) more

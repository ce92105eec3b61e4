-- What a shove leaves on the strip.
use Rattle.std.proofs.Common.{◌≡◌, refl, ℕ, zero, suc, ◌<◌, ◌≤◌, true, List, [], ◌∷◌, length, sym, subst, arith}
use Rattle.std.specs.Prelude.{Contains, codes}
use Rattle.std.specs.List.{insert}
use Rattle.cg_moves.specs.Grid.{AreCells, Grid}
use Rattle.cg_moves.proofs.Same.{bytes_eq-back}
use Rattle.cg_example_game.specs.Shove.{empty, shove, shoved}

-- one more cell that has a symbol
insert-cells : (symbols cells : List ℕ) (at s : ℕ) → at ≤ length cells → Contains symbols s → AreCells symbols cells
    → AreCells symbols (insert cells at s)
insert-cells symbols cells zero s below is all zero inside = is
insert-cells symbols cells zero s below is all (suc k) inside = all k (omega arith)
insert-cells symbols [] (suc at) s below is all k inside = absurd (omega arith)
insert-cells symbols (c ∷ cells) (suc at) s below is all zero inside = all 0 (omega arith)
insert-cells symbols (c ∷ cells) (suc at) s below is all (suc k) inside =
    insert-cells symbols cells at s (omega arith) is (λ j h. all (suc j) (omega arith)) k (omega arith)

-- each cell has a symbol
pub shoved-cells : (symbols cells : List ℕ) (at : ℕ) → at < length cells → Contains symbols empty → AreCells symbols cells
    → AreCells symbols (shoved cells at)
shoved-cells symbols [] at below is all = absurd (omega arith)
shoved-cells symbols (c ∷ cells) at below is all =
    insert-cells symbols cells at empty (omega arith) is (λ k h. all (suc k) (omega arith))

pub has-empty : (p : Grid) → shove.has p ≡ true → Contains p.symbols empty
has-empty p has =
    let P : List ℕ → Type 0 = λ z. Contains z empty in
    subst P (sym (bytes_eq-back p.symbols (codes ".xo") has)) (0, omega arith, refl)

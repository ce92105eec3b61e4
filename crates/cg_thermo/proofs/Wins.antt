-- Outcomes by the comparison with 0.
use Rattle.std.proofs.Common.{◌≡◌, ap, sym, ◌∙◌, ◌⊎◌, inl, inr, Bool, true, false, pos}
use Rattle.std.specs.Prelude.{IsTrue}
use Rattle.cg_dyadic.specs.Number.{whole}
use Rattle.cg_dyadic.proofs.Truth.{true_or_false}
use Rattle.cg_form.specs.Game.{Game, number}
use Rattle.cg_form.specs.Order.{le}
use Rattle.cg_form.specs.Outcome.{outcome}
use Rattle.cg_form.specs.Sum.{nothing}
use Rattle.cg_form.proofs.EqualGames.{le-zero, zero-le}
use Rattle.cg_form.proofs.Outcome.{confused-next, equal-previous, greater-left, less-right}
use Rattle.cg_thermo.specs.Winners.{told, winner_by}

not_true : (b : Bool) → b ≡ false → ¬ IsTrue b
not_true b e h = let f : true ≡ false = sym h ∙ e in cc

by_cases : (g : Game) → (le nothing g ≡ true) ⊎ (le nothing g ≡ false) → (le g nothing ≡ true) ⊎ (le g nothing ≡ false)
    → winner_by (le nothing g) (le g nothing) ≡ told (outcome g)
by_cases g (inl p) (inl q) = ap (λ b. winner_by b (le g nothing)) p ∙ ap (winner_by true) q ∙ sym (ap told (equal-previous g (q, p)))
by_cases g (inl p) (inr q) = ap (λ b. winner_by b (le g nothing)) p ∙ ap (winner_by true) q
    ∙ sym (ap told (greater-left g p (not_true (le g nothing) q)))
by_cases g (inr p) (inl q) = ap (λ b. winner_by b (le g nothing)) p ∙ ap (winner_by false) q
    ∙ sym (ap told (less-right g q (not_true (le nothing g) p)))
by_cases g (inr p) (inr q) = ap (λ b. winner_by b (le g nothing)) p ∙ ap (winner_by false) q
    ∙ sym (ap told (confused-next g (not_true (le nothing g) p) (not_true (le g nothing) q)))

pub wins : (g : Game) → winner_by (le (number (whole (pos 0))) g) (le g (number (whole (pos 0)))) ≡ told (outcome g)
wins g = ap (λ b. winner_by b (le g (number (whole (pos 0))))) (zero-le g) ∙ ap (winner_by (le nothing g)) (le-zero g)
    ∙ by_cases g (true_or_false (le nothing g)) (true_or_false (le g nothing))

-- The order of two numbers as a comparison of whole numbers.
use Rattle.std.proofs.Common.{◌≡◌, refl, sym, ◌∙◌, ◌⊎◌, ℤ, true, false, ◌<ℤ◌, arith, inl, inr}
use Rattle.std.proofs.lemmas.Int.{ints}
use Rattle.std.specs.declared.cmp.Ordering.{Ordering}
use Rattle.std.specs.declared.cmp.Ordering.TheVariants.{Less, Equal, Greater}
use Rattle.std.specs.Ordering.{int_cmp, MatchOrdering}
use Rattle.std.specs.Cmp.{int_ranks}
use lib.Signed.{le_z}
use Rattle.cg_dyadic.specs.Number.{Number, number_cmp, number_le}
use Rattle.cg_dyadic.proofs.Integers.{from_le_z, to_le_z}
use Rattle.cg_dyadic.proofs.Truth.{false-from, true_or_false}
use Rattle.cg_dyadic.proofs.Values.{number_le-refl, number_le-same}

-- a number that is at most another, and is at least it, is that number
pub number_cmp-less : (x y : Number) → number_le x y ≡ true → number_le y x ≡ false → number_cmp x y ≡ Less
number_cmp-less x y p q = rw (p, q) refl

pub number_cmp-equal : (x y : Number) → number_le x y ≡ true → number_le y x ≡ true → number_cmp x y ≡ Equal
number_cmp-equal x y p q = rw (p, q) refl

pub number_cmp-greater : (x y : Number) → number_le x y ≡ false → number_cmp x y ≡ Greater
number_cmp-greater x y p = rw p refl

pub number_cmp-through : (x y : Number) (a b : ℤ) (o : Ordering) → le_z a b ≡ number_le x y → le_z b a ≡ number_le y x → o ≡ int_cmp a b → o ≡ number_cmp x y
number_cmp-through x y a b o p q e = e ∙ by (int_cmp a b) (int_ranks a b)
  where
    not_le : (a b : ℤ) → b <ℤ a → le_z a b ≡ false
    not_le a b h = false-from (le_z a b) (λ k. let l = from_le_z a b k in omega (arith, ints))

    by : (r : Ordering) → MatchOrdering r (a <ℤ b) (a ≡ b) (b <ℤ a) → r ≡ number_cmp x y
    by Less h = sym (number_cmp-less x y (sym p ∙ to_le_z a b (omega (arith, ints))) (sym q ∙ not_le b a h))
    by Equal h = sym (number_cmp-equal x y (sym p ∙ to_le_z a b (omega (arith, ints))) (sym q ∙ to_le_z b a (omega (arith, ints))))
    by Greater h = sym (number_cmp-greater x y (sym p ∙ not_le a b h))

pub number_cmp-same : (x y : Number) → (number_cmp x y ≡ Equal → x ≡ y) × (x ≡ y → number_cmp x y ≡ Equal)
number_cmp-same x y = (
  λ e. tells (true_or_false (number_le x y)) (true_or_false (number_le y x)) e,
  λ e. rw e (number_cmp-equal y y (number_le-refl y) (number_le-refl y)),
)
  where
    tells : (number_le x y ≡ true) ⊎ (number_le x y ≡ false) → (number_le y x ≡ true) ⊎ (number_le y x ≡ false) → number_cmp x y ≡ Equal → x ≡ y
    tells (inl p) (inl q) e = number_le-same x y p q
    tells (inl p) (inr q) e = absurd (let f = sym (number_cmp-less x y p q) ∙ e in cc)
    tells (inr p) q e = absurd (let f = sym (number_cmp-greater x y p) ∙ e in cc)

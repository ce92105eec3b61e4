-- Whole numbers: comparison, size, halves.
use Rattle.std.proofs.Common.{◌≡◌, refl, ℕ, ◌≤◌, ◌<◌, arith, true, false, IsTrue, ℤ, pos, negsuc, ◌+ℤ◌, ◌≤ℤ◌, ◌<ℤ◌, ◌⊎◌, inl, inr, unsigned_abs}
use Rattle.std.proofs.lemmas.Int.{ints}
use Rattle.std.proofs.lemmas.Bool.Decides.{nat_tests}
use Rattle.std.specs.Prelude.{◌==◌, ◌%◌, ◌≢◌}
use lib.Signed.{le_z, lt_z}
use Rattle.cg_dyadic.specs.Number.{half, is_even}
use Rattle.cg_dyadic.proofs.Truth.{true_or_false}

-- ---- comparison

pub from_le_z : (a b : ℤ) → IsTrue (le_z a b) → a ≤ℤ b
from_le_z a b h = grind (arith, ints)

pub to_le_z : (a b : ℤ) → a ≤ℤ b → IsTrue (le_z a b)
to_le_z a b h = grind (arith, ints)

pub from_lt_z : (a b : ℤ) → lt_z a b ≡ true → a <ℤ b
from_lt_z a b h = grind (arith, ints)

pub not_lt_z : (a b : ℤ) → lt_z a b ≡ false → b ≤ℤ a
not_lt_z a b h = grind (arith, ints)

pub lt_cases : (a b : ℤ) → (lt_z a b ≡ true) ⊎ (lt_z a b ≡ false)
lt_cases a b = true_or_false (lt_z a b)

pub le_or_lt : (a b : ℤ) → (a ≤ℤ b) ⊎ (b <ℤ a)
le_or_lt a b = grind (arith, ints)

pub eq_or_lt : (a b : ℤ) → a ≤ℤ b → (a ≡ b) ⊎ (a <ℤ b)
eq_or_lt a b h = grind (arith, ints)

pub le_or_gt : (a b : ℕ) → (a ≤ b) ⊎ (b < a)
le_or_gt a b = grind arith

-- ---- size

-- what the size of an integer says
pub abs_tells : (n : ℤ) → (n ≡ pos (unsigned_abs n)) ⊎ (n +ℤ pos (unsigned_abs n) ≡ pos 0)
abs_tells (pos n) = inl refl
abs_tells (negsuc n) = inr (omega (arith, ints))

-- ---- halves

eq_from : (m n : ℕ) → (m == n) ≡ true → m ≡ n
eq_from m n h = grind (arith, nat_tests)

ne_from : (m n : ℕ) → (m == n) ≡ false → m ≢ n
ne_from m n h = grind (arith, nat_tests)

pub even_half : (n : ℤ) → is_even n ≡ true → half n +ℤ half n ≡ n
even_half (pos n) h = let e = eq_from (n % 2) 0 h in omega (arith, ints)
even_half (negsuc n) h = let e = eq_from (n % 2) 1 h in omega (arith, ints)

pub odd_half : (n : ℤ) → is_even n ≡ false → half n +ℤ half n +ℤ pos 1 ≡ n
odd_half (pos n) h = let e = ne_from (n % 2) 0 h in omega (arith, ints)
odd_half (negsuc n) h = let e = ne_from (n % 2) 1 h in omega (arith, ints)

pub half_floor : (n : ℤ) → ((half n +ℤ half n) ≤ℤ n) × (n ≤ℤ (half n +ℤ half n +ℤ pos 1))
half_floor (pos n) = (omega (arith, ints), omega (arith, ints))
half_floor (negsuc n) = (omega (arith, ints), omega (arith, ints))

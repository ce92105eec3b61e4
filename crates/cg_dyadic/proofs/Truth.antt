-- Tests and what they tell.
use Rattle.std.proofs.Common.{◌≡◌, refl, Bool, true, false, not, IsTrue, ◌&&◌, sym, ◌⊎◌, inl, inr, ℕ, ◌<◌, arith}
use Rattle.std.specs.Prelude.{nat_lt}
use Rattle.std.proofs.lemmas.Bool.Decides.{nat_tests}

pub and-split : (b c : Bool) → IsTrue (b && c) → IsTrue b × IsTrue c
and-split true c h = (refl, h)
and-split false c h = absurd (cc)

pub and-both : (b c : Bool) → IsTrue b → IsTrue c → IsTrue (b && c)
and-both b c h k = cc

pub differ : (b : Bool) → b ≡ true → b ≡ false → ⊥
differ b h k = cc

pub false-from : (b : Bool) → ¬ IsTrue b → b ≡ false
false-from true h = absurd (h refl)
false-from false h = refl

pub true-or-not : (b : Bool) → IsTrue b ⊎ (¬ IsTrue b)
true-or-not true = inl refl
true-or-not false = inr (λ h. differ false h refl)

pub not_true : (b : Bool) → IsTrue (not b) → ¬ IsTrue b
not_true true h k = differ true refl (sym h)
not_true false h k = differ false k refl

pub true_not : (b : Bool) → ¬ IsTrue b → IsTrue (not b)
true_not true h = absurd (h refl)
true_not false h = refl

pub not_not_is : (b : Bool) → IsTrue (not (not b)) → IsTrue b
not_not_is true h = refl
not_not_is false h = h

pub is_not_not : (b : Bool) → IsTrue b → IsTrue (not (not b))
is_not_not true h = refl
is_not_not false h = h

pub true_or_false : (b : Bool) → (b ≡ true) ⊎ (b ≡ false)
true_or_false true = inl refl
true_or_false false = inr refl

pub not_not : (b : Bool) → not (not b) ≡ b
not_not true = refl
not_not false = refl

pub and_swap : (b c : Bool) → (b && c) ≡ (c && b)
and_swap true true = refl
and_swap true false = refl
and_swap false true = refl
and_swap false false = refl

-- ---- numbers in order

pub nat_lt-less : (m n : ℕ) → nat_lt m n ≡ true → m < n
nat_lt-less m n t = grind (arith, nat_tests)

pub less-nat_lt : (m n : ℕ) → m < n → nat_lt m n ≡ true
less-nat_lt m n l = grind (arith, nat_tests)

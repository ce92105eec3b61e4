-- Of two numbers one is below the other, or at least as great.
use Rattle.std.proofs.Common.{◌≡◌, refl, ℕ, ◌<◌, ◌≤◌, ◌⊎◌, inl, inr, Bool, true, false, leb}
use Rattle.std.proofs.lemmas.Bool.{leb-false, leb-true}

pub below_or_not : (m n : ℕ) → (m < n) ⊎ (n ≤ m)
below_or_not m n = by (leb n m) refl
  where
    by : (t : Bool) → leb n m ≡ t → (m < n) ⊎ (n ≤ m)
    by true h = inr (leb-true n m h)
    by false h = inl (leb-false n m h)

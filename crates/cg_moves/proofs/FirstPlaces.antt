-- The first place that has a property, for readers that say where a text is refused.
use Rattle.std.proofs.Common.{◌≡◌, refl, ℕ, ◌≤◌, ◌⊎◌, inl, inr, Option, Some, None}
use Rattle.std.specs.Option.{option_or}

-- nothing where no place has the property, and else the first that has it
abbrev pub First : (ℕ → Type 0) → Option ℕ → Type 0
First P None = (q : ℕ) → ¬ P q
First P (Some p) = P p × ((q : ℕ) → P q → p ≤ q)

pub first_or : (P Q : ℕ → Type 0) (a b : Option ℕ) → ((p q : ℕ) → P p → Q q → p ≤ q) → First P a → First Q b
    → First (λ q. P q ⊎ Q q) (option_or a b)
first_or P Q None None order f g = λ q h. neither q h
  where
    neither : (q : ℕ) → P q ⊎ Q q → ⊥
    neither q (inl h) = f q h
    neither q (inr h) = g q h
first_or P Q None (Some p) order f g = (inr g.0, λ q h. least q h)
  where
    least : (q : ℕ) → P q ⊎ Q q → p ≤ q
    least q (inl h) = absurd (f q h)
    least q (inr h) = g.1 q h
first_or P Q (Some p) b order f g = (inl f.0, λ q h. least q h)
  where
    least : (q : ℕ) → P q ⊎ Q q → p ≤ q
    least q (inl h) = f.1 q h
    least q (inr h) = order p q f.0 h

pub first_same : (P Q : ℕ → Type 0) (a : Option ℕ) → ((q : ℕ) → P q → Q q) → ((q : ℕ) → Q q → P q) → First P a → First Q a
first_same P Q None to from f = λ q h. f q (from q h)
first_same P Q (Some p) to from f = (to p f.0, λ q h. f.1 q (from q h))

pub or_none : (a b : Option ℕ) → option_or a b ≡ None → (a ≡ None) × (b ≡ None)
or_none None b e = (refl, e)
or_none (Some p) b e = absurd (cc)

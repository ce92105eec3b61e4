-- Texts that are read one after another.
use Rattle.std.proofs.Common.{◌≡◌, refl, ap, sym, ◌∙◌, append_assoc, ℕ, List, ◌++◌, Option, Some, None}
use Rattle.cg_cert.specs.Reads.{Reads}

-- each text of the one kind is a text of a first kind and then one of a second
pub record Splits (Whole First Second : List ℕ → Type 0) : Type 0 where
  pub apart : (x : List ℕ) → Whole x → (y : List ℕ) × (z : List ℕ) × First y × Second z × (x ≡ y ++ z)
  pub join : (y z : List ℕ) → First y → Second z → Whole (y ++ z)

module _ (Whole First Second : List ℕ → Type 0) (s : Splits Whole First Second) where
  pub reads_then : (input mid : List ℕ) (r : Option (List ℕ)) → Reads First input (Some mid) → Reads Second mid r
      → Reads Whole input r
  reads_then input mid r f t = record {
    sound = λ rest e.
        let (y, p, a) = f.sound mid refl in
        let (z, q, b) = t.sound rest e in
        (y ++ z, s.join y z p q, a ∙ ap (λ v. y ++ v) b ∙ sym (append_assoc y z rest));
    complete = λ x rest w e.
        let (y, z, p, q, d) = s.apart x w in
        let m : Some mid ≡ Some (z ++ rest) = f.complete y (z ++ rest) p
        (e ∙ ap (λ v. v ++ rest) d ∙ append_assoc y z rest) in
        let n : mid ≡ z ++ rest = cc in
        t.complete z rest q n;
  }

  pub reads_stop : (input : List ℕ) → Reads First input None → Reads Whole input None
  reads_stop input f = record {
    sound = λ rest e. absurd (cc);
    complete = λ x rest w e.
        let (y, z, p, q, d) = s.apart x w in
        let m : None ≡ Some (z ++ rest) = f.complete y (z ++ rest) p
        (e ∙ ap (λ v. v ++ rest) d ∙ append_assoc y z rest) in
        absurd (cc);
  }

-- the same texts
pub reads_same : (Is Also : List ℕ → Type 0) (input : List ℕ) (r : Option (List ℕ)) → ((x : List ℕ) → Is x → Also x)
    → ((x : List ℕ) → Also x → Is x) → Reads Is input r → Reads Also input r
reads_same Is Also input r f g t = record {
  sound = λ rest e. let (x, p, a) = t.sound rest e in (x, f x p, a);
  complete = λ x rest w e. t.complete x rest (g x w) e;
}

-- the input begins with no such text
pub reads_none : (Is : List ℕ → Type 0) (input : List ℕ) → ((x rest : List ℕ) → Is x → input ≡ x ++ rest → ⊥)
    → Reads Is input None
reads_none Is input f = record { sound = λ rest e. absurd (cc); complete = λ x rest w e. absurd (f x rest w e) }

-- ---- one byte

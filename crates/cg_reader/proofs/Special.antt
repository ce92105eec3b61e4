-- The equations of what may be an operand.
use Rattle.std.proofs.Common.{◌≡◌, ℕ, suc, ◌-◌, ◌<◌, false, List, [], ◌∷◌, refl, ap, sym, ◌∙◌, arith}
use Rattle.cg_reading.specs.Bytes.{has}
use Rattle.cg_grammar.specs.Reading.{special_at, bare_special_at, plain_begin, bracket_at, sum_at}
use Rattle.cg_query.specs.declared.format.Format.{Format}

module _ (format : Format) where
  paren_here : (n end b : ℕ) (bytes : List ℕ) → has plain_begin b ≡ false → bare_special_at format (suc n) end (b ∷ bytes) ≡ bracket_at
      (sum_at (special_at format n)) end (b ∷ bytes)
  unfolding special_at bare_special_at
  paren_here n end b bytes h = rw h refl

  none_here : (n end : ℕ) → bare_special_at format (suc n) end [] ≡ bracket_at (sum_at (special_at format n)) end []
  unfolding special_at bare_special_at
  none_here n end = refl

  pub special_paren : (k end : ℕ) (b : ℕ) (all bytes : List ℕ) → all ≡ b ∷ bytes → 0 < k → has plain_begin b ≡ false → bare_special_at format k end all
      ≡ bracket_at (sum_at (special_at format (k - 1))) end all
  special_paren k end b all bytes s some h =
      let e : k ≡ suc (k - 1) = omega arith in
      ap (bare_special_at format k end) s ∙ ap (λ (n : ℕ). bare_special_at format n end (b ∷ bytes)) e ∙ paren_here (k - 1) end b bytes h
      ∙ ap (bracket_at (sum_at (special_at format (k - 1))) end) (sym s)

  pub special_none : (k end : ℕ) (all : List ℕ) → all ≡ [] → 0 < k → bare_special_at format k end all ≡ bracket_at (sum_at (special_at format (k - 1))) end all
  special_none k end all s some =
      let e : k ≡ suc (k - 1) = omega arith in
      ap (bare_special_at format k end) s ∙ ap (λ (n : ℕ). bare_special_at format n end []) e ∙ none_here (k - 1) end
      ∙ ap (bracket_at (sum_at (special_at format (k - 1))) end) (sym s)

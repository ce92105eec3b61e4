-- The positions of ups and downs.
use Rattle.std.proofs.Common.{◌≡◌, refl, append_assoc, append-nil, ℕ, ◌+◌, ◌≤◌, arith, zero, suc, ◌⊎◌, inl, inr}
use Rattle.std.proofs.Common.{ap, sym, ◌∙◌, List, [], ◌∷◌, ◌++◌, length, length-append, Bool, true, false, not}
use Rattle.cg_form.specs.Game.{Among, Game}
use Rattle.cg_form.proofs.Among.{carry}
use Rattle.cg_form.specs.Positions.{all_positions, once, positions_of}
use Rattle.cg_names.specs.Named.{mirrored_if, star_form, ups_chain, ups_form, ups_of, zero_form}
use Rattle.cg_form.proofs.Once.{once-first, once-known, once-known_new, once-new}
use Rattle.cg_nodes.proofs.PositionSizes.{not_position-far}
use Rattle.cg_names.proofs.Reducing.{far-mirrored}

-- the positions of u begin with 0, and once each they are cs
record Chained (u : Game) (cs : List Game) : Type 0 where
  rest : List Game
  begins : all_positions u ≡ zero_form ∷ rest
  once_each : once (all_positions u) ≡ cs

star_chained : Chained star_form (zero_form ∷ (star_form ∷ []))
star_chained = record {
  rest = zero_form ∷ (star_form ∷ []);
  begins = refl;
  once_each = once-first zero_form
      (star_form ∷ []);
}

-- {0|u}
over : (down : Bool) (u : Game) (cs : List Game) → Chained u cs
    → Chained (mirrored_if down (zero_form ∷ []) (u ∷ [])) (cs ++ (mirrored_if down (zero_form ∷ []) (u ∷ []) ∷ []))
over down u cs i = by down (not_position-far (not down) (mirrored_if down (zero_form ∷ []) (u ∷ [])) u
    (carry u (u ∷ []) _ (sym (far-mirrored down (zero_form ∷ []) (u ∷ []))) (inl refl)))
  where
    by : (down : Bool) → ¬ Among (mirrored_if down (zero_form ∷ []) (u ∷ [])) (all_positions u)
        → Chained (mirrored_if down (zero_form ∷ []) (u ∷ [])) (cs ++ (mirrored_if down (zero_form ∷ []) (u ∷ []) ∷ []))
    by false fresh =
        let g : Game = mirrored_if false (zero_form ∷ []) (u ∷ []) in
        let whole : all_positions g ≡ zero_form ∷ (all_positions u ++ (g ∷ [])) =
        ap (λ z. zero_form ∷ (z ++ (g ∷ []))) (append-nil (all_positions u)) in
        record {
          rest = all_positions u ++ (g ∷ []);
          begins = whole;
          once_each = ap once (whole ∙ ap (λ z. zero_form ∷ (z ++ (g ∷ []))) i.begins) ∙ once-first zero_form
              (i.rest ++ (g ∷ []))
              ∙ ap (λ z. once (z ++ (g ∷ []))) (sym i.begins) ∙ once-new (all_positions u) g fresh ∙ ap
              (λ z. z ++ (g ∷ [])) i.once_each;
        }
    by true fresh =
        let g : Game = mirrored_if true (zero_form ∷ []) (u ∷ []) in
        let end : List Game = zero_form ∷ (g ∷ []) in
        let whole : all_positions g ≡ all_positions u ++ end =
        ap (λ z. (z ++ (zero_form ∷ [])) ++ (g ∷ [])) (append-nil (all_positions u))
        ∙ append_assoc (all_positions u) (zero_form ∷ []) (g ∷ []) in
        record {
          rest = i.rest ++ end;
          begins = whole ∙ ap (λ z. z ++ end) i.begins;
          once_each = ap once whole ∙ once-known_new (all_positions u) (zero_form ∷ []) g
              (λ h m. elim m [
                | inl e ↦ rw e (carry zero_form (zero_form ∷ i.rest) (all_positions u) (sym i.begins) (inl refl))
                | inr k ↦ absurd k
              ]) fresh ∙ ap (λ z. z ++ (g ∷ [])) i.once_each;
        }

-- {0,*|0}
abbrev both : List Game
both = zero_form ∷ (star_form ∷ [])

both_new : (down : Bool) (g : Game) → g ≡ mirrored_if down both (zero_form ∷ []) → ¬ ((g ≡ zero_form) ⊎ (g ≡ star_form))
both_new false g e (inl f) = cc
both_new false g e (inr f) = cc
both_new true g e (inl f) = cc
both_new true g e (inr f) = cc

both_chained : (down : Bool) → Chained (mirrored_if down both (zero_form ∷ []))
    (both ++ (mirrored_if down both (zero_form ∷ []) ∷ []))
both_chained false =
    let g : Game = mirrored_if false both (zero_form ∷ []) in
    let front : List Game = zero_form ∷ (zero_form ∷ (zero_form ∷ (star_form ∷ (zero_form ∷ [])))) in
    let only : (x : Game) → Among x front → (x ≡ zero_form) ⊎ (x ≡ star_form) = λ x m. elim m [
      | inl e ↦ inl e
      | inr (inl e) ↦ inl e
      | inr (inr (inl e)) ↦ inl e
      | inr (inr (inr (inl e))) ↦ inr e
      | inr (inr (inr (inr (inl e)))) ↦ inl e
      | inr (inr (inr (inr (inr k)))) ↦ absurd k
    ] in
    record {
      rest = zero_form ∷ (zero_form ∷ (star_form ∷ (zero_form ∷ (g ∷ []))));
      begins = refl;
      once_each = once-new front g (λ m. both_new false g refl (only g m)) ∙ ap (λ z. z ++ (g ∷ []))
          (once-first zero_form (zero_form ∷ (star_form ∷ (zero_form ∷ [])))
          ∙ once-first zero_form (star_form ∷ (zero_form ∷ []))
          ∙ once-known both (zero_form ∷ []) (λ h m. elim m [ inl e ↦ inl e | inr k ↦ absurd k ]));
    }
both_chained true =
    let g : Game = mirrored_if true both (zero_form ∷ []) in
    let front : List Game = zero_form ∷ (zero_form ∷ (zero_form ∷ (zero_form ∷ (star_form ∷ [])))) in
    let only : (x : Game) → Among x front → (x ≡ zero_form) ⊎ (x ≡ star_form) = λ x m. elim m [
      | inl e ↦ inl e
      | inr (inl e) ↦ inl e
      | inr (inr (inl e)) ↦ inl e
      | inr (inr (inr (inl e))) ↦ inl e
      | inr (inr (inr (inr (inl e)))) ↦ inr e
      | inr (inr (inr (inr (inr k)))) ↦ absurd k
    ] in
    record {
      rest = zero_form ∷ (zero_form ∷ (zero_form ∷ (star_form ∷ (g ∷ []))));
      begins = refl;
      once_each = once-new front g (λ m. both_new true g refl (only g m)) ∙ ap (λ z. z ++ (g ∷ []))
          (once-first zero_form (zero_form ∷ (zero_form ∷ (star_form ∷ [])))
          ∙ once-first zero_form (zero_form ∷ (star_form ∷ [])) ∙ once-first zero_form (star_form ∷ []));
    }

ups_chained : (down starred : Bool) (n : ℕ) → Chained (ups_of down starred (suc n)) (ups_chain down starred (suc n))
unfolding ups_of ups_chain
ups_chained down false zero = over down star_form both star_chained
ups_chained down true zero = both_chained down
ups_chained down starred (suc n) = over down (ups_of down (not starred) (suc n))
    (ups_chain down (not starred) (suc n)) (ups_chained down (not starred) n)

pub ups-positions : (down starred : Bool) (n : ℕ) → positions_of (ups_of down starred (suc n)) ≡ ups_chain down
    starred (suc n)
unfolding positions_of
ups-positions down starred n = (ups_chained down starred n).once_each

pub length-ups_chain : (down starred : Bool) (n : ℕ) → length (ups_chain down starred n) ≡ n + 2
unfolding ups_chain
length-ups_chain down starred zero = refl
length-ups_chain down starred (suc n) =
    let l = length-ups_chain down (not starred) n in
    length-append (ups_chain down (not starred) n) (ups_of down starred (suc n) ∷ []) ∙
    (let e : length (ups_chain down (not starred) n) + 1 ≡ suc n + 2 = omega arith in e)

pub length-ups_positions : (down starred : Bool) (n : ℕ) → length (positions_of (ups_of down starred (suc n))) ≡ suc n
    + 2
length-ups_positions down starred n = ap length (ups-positions down starred n) ∙ length-ups_chain down starred (suc n)

pub ups_form-positions : (down : Bool) (n : ℕ) → 1 ≤ n → positions_of (ups_form down n) ≡ ups_chain down false n
ups_form-positions down zero l = absurd (omega arith)
ups_form-positions down (suc n) l = ups-positions down false n

-- The positions of switches, tinies and minies.
use Rattle.std.proofs.Common.{◌≡◌, refl, inl, inr, ap, ◌∙◌, subst, List, [], ◌∷◌, ◌++◌, Bool, true, false}
use Rattle.std.specs.Prelude.{cond}
use Rattle.cg_dyadic.specs.Number.{Number}
use Rattle.cg_dyadic.proofs.Truth.{false-from}
use Rattle.cg_form.specs.Game.{Among, Game, number}
use Rattle.cg_form.specs.Positions.{once, positions_of}
use Rattle.cg_form.specs.Structure.{is_same}
use Rattle.cg_dyadic.specs.Exact.{number_negative}
use Rattle.cg_names.specs.Named.{first_number, other_numbers, pair_form, pair_positions, second_number}
use Rattle.cg_names.specs.Named.{switch_form, tiny_form, tiny_part, zero_form, zero_number}
use Rattle.cg_form.proofs.Once.{once-first, once-known_new, once-new}
use Rattle.cg_form.proofs.Structure.{is_same-back, is_same-refl}
use Rattle.cg_nodes.proofs.PositionSizes.{not_position-far}

-- x, y and {x|y}
pair-once : (x y : Number) → once (number x ∷ (number y ∷ (pair_form x y ∷ []))) ≡ pair_positions x y
pair-once x y = by (is_same (number x) (number y)) refl
  where
    by : (b : Bool) → is_same (number x) (number y) ≡ b → once (number x ∷ (number y ∷ (pair_form x y ∷ []))) ≡
        pair_positions x y
    by true e = rw e refl
    by false e = rw e refl

pub switch-positions : (x : Number) → positions_of (switch_form x) ≡ pair_positions x (number_negative x)
unfolding positions_of
switch-positions x = pair-once x (number_negative x)

-- ---- {0|{0|-x}} and {{x|0}|0}

abbrev front : Bool → Number → List Game
front miny x = number (first_number miny x) ∷ (number (second_number miny x) ∷ (tiny_part miny x ∷ []))

tiny_new : (miny : Bool) (x : Number) → ¬ Among (tiny_form miny x) (front miny x)
tiny_new false x m = elim m [
  | inl e ↦ cc
  | inr (inl e) ↦ cc
  | inr (inr (inl e)) ↦ not_position-far true (tiny_form false x) (tiny_part false x) (inl refl)
      (rw e
      (inr (inr (inl refl))))
  | inr (inr (inr k)) ↦ k
]
tiny_new true x m = elim m [
  | inl e ↦ cc
  | inr (inl e) ↦ cc
  | inr (inr (inl e)) ↦ not_position-far false (tiny_form true x) (tiny_part true x) (inl refl)
      (rw e
      (inr (inr (inl refl))))
  | inr (inr (inr k)) ↦ k
]

pub tiny-positions : (miny : Bool) (x : Number)
    → positions_of (tiny_form miny x) ≡ pair_positions (first_number miny x) (second_number miny x) ++
    (tiny_form miny x ∷ [])
unfolding positions_of
tiny-positions false x = once-first zero_form (number (second_number false x) ∷
    (tiny_part false x ∷ (tiny_form false x ∷ [])))
    ∙ once-new (front false x) (tiny_form false x) (tiny_new false x)
    ∙ ap (λ z. z ++ (tiny_form false x ∷ [])) (pair-once zero_number (number_negative x))
tiny-positions true x = once-known_new (front true x) (zero_form ∷ []) (tiny_form true x)
    (λ h m. elim m [ inl e ↦ inr (inl e) | inr k ↦ absurd k ]) (tiny_new true x)
    ∙ ap (λ z. z ++ (tiny_form true x ∷ [])) (pair-once x zero_number)

-- ---- the second number

same_number : (x y : Number) → number x ≡ number y → x ≡ y
same_number x y e = cc

pub other_none : (x y : Number) → x ≡ y → other_numbers x y ≡ []
other_none x y e =
    let P : Number → Type 0 = λ z. is_same (number x) (number z) ≡ true in
    ap (λ b. cond b [] (number y ∷ [])) (subst P e (is_same-refl (number x)))

pub other_one : (x y : Number) → ¬ (x ≡ y) → other_numbers x y ≡ number y ∷ []
other_one x y n = ap (λ b. cond b [] (number y ∷ []))
    (false-from (is_same (number x) (number y)) (λ t. n (same_number x y (is_same-back (number x) (number y) t))))

-- What the shape of a game tells of its named form.
use mathlib.Core.Bool.{beq}
use Rattle.std.proofs.Common.{◌≡◌, refl, ap, sym, ◌∙◌, ℕ, zero, suc, ◌+◌, arith, add-one, inl, inr}
use Rattle.std.proofs.Common.{◌⊎◌, List, [], ◌∷◌, Bool, true, false, not, cond, Option, Some, None}
use Rattle.cg_dyadic.proofs.Negatives.{double_negative}
use Rattle.cg_dyadic.proofs.Truth.{not_not}
use Rattle.cg_dyadic.specs.Number.{Number}
use Rattle.cg_form.specs.Game.{Game, node, number, options}
use Rattle.cg_form.specs.Shifted.{shifted}
use Rattle.cg_form.specs.Side.{near}
use Rattle.cg_nodes.specs.Games.{IsNode}
use Rattle.cg_dyadic.specs.Exact.{number_negative}
use Rattle.cg_names.specs.Named.{mirrored_if, nimber_form, pair_form, tiny_form, tiny_part, ups_of, zero_form, zero_number}
use Rattle.cg_names.specs.Readings.{IsArrows}
use Rattle.cg_names.specs.Shapes.{leading, named_form_of}
use Rattle.cg_names.specs.declared.named_form.NamedForm.{NamedForm}
use Rattle.cg_names.specs.declared.named_form.NamedForm.TheVariants.{Star, Arrows}
use Rattle.cg_names.proofs.Guessing.{found-form, one_value, named_form-found}
use Rattle.cg_names.proofs.NameRule.{some_is}
use Rattle.cg_names.proofs.NamedFormLists.{ArrowsShape, IsStep, arrows_shape, both, both_is, level, level_is, mirrored-others}
use Rattle.cg_names.proofs.NamedFormLists.{mirrored-own, no_ups, not_number, one_star_form, star_above, step, step_is}

-- ---- lists of one

pub one_same : (g h : Game) → g ∷ [] ≡ h ∷ [] → g ≡ h
one_same g h e = cc

pub one_not_two : (g h k : Game) → ¬ (g ∷ [] ≡ h ∷ (k ∷ []))
one_not_two g h k e = cc

-- ---- {x|y}

pub pair-lefts : (ls rs : List Game) (x y : Number) → node ls rs ≡ pair_form x y → ls ≡ number x ∷ []
pair-lefts ls rs x y e = mirrored-own false ls rs (number x ∷ []) (number y ∷ []) e

pub pair-rights : (ls rs : List Game) (x y : Number) → node ls rs ≡ pair_form x y → rs ≡ number y ∷ []
pair-rights ls rs x y e = mirrored-others false ls rs (number x ∷ []) (number y ∷ []) e

-- ---- ups

-- the number of a game of the chain
abbrev some_number : Option Number → Number
some_number None = zero_number
some_number (Some x) = x

abbrev base_in : Bool → Game → Number
base_in down (number x) = x
base_in down (options ls rs) = some_number (leading (near (not down) (options ls rs)))

base_mirrored : (down : Bool) (x : Number) (ls rs : List Game) → base_in down (mirrored_if down (number x ∷ ls) rs) ≡ x
base_mirrored false x ls rs = refl
base_mirrored true x ls rs = refl

base_is : (down starred : Bool) (x : Number) (n : ℕ) → base_in down (shifted x (ups_of down starred n)) ≡ x
base_is down false x zero = ap (base_in down) (no_ups down x)
base_is down true x zero = ap (base_in down) (level_is down x) ∙ base_mirrored down x [] (number x ∷ [])
base_is down true x (suc zero) = ap (base_in down) (both_is down x) ∙ base_mirrored down x (star_above x ∷ []) (number x ∷ [])
base_is down false x (suc zero) = ap (base_in down) (step_is down false x zero tt) ∙ base_mirrored down x [] _
base_is down starred x (suc (suc n)) = ap (base_in down) (step_is down starred x (suc n) tt) ∙ base_mirrored down x [] _

one_base : (down s t : Bool) (x y : Number) (m n : ℕ)
    → shifted x (ups_of down s m) ≡ shifted y (ups_of down t n) → x ≡ y
one_base down s t x y m n e = sym (base_is down s x m) ∙ ap (base_in down) e ∙ base_is down t y n

-- {x|g} is one more than g
pub more-found : (x y : Number) → x ≡ y → (down s : Bool) (n m : ℕ) → m ≡ n + 1 → (g : Game) → IsNode g
    → g ≡ shifted y (ups_of down s n)
    → mirrored_if down (number x ∷ []) (g ∷ []) ≡ shifted x (ups_of down (not s) m)
more-found x y e down s n m c g i f =
    let same : g ≡ shifted x (ups_of down s n) = f ∙ ap (λ z. shifted z (ups_of down s n)) (sym e) in
    rw (← (sym (add-one n) ∙ sym c)) (ap (λ z. mirrored_if down (number x ∷ []) (z ∷ [])) same
    ∙ ap (λ b. mirrored_if down (number x ∷ []) (shifted x (ups_of down b n) ∷ [])) (sym (not_not s))
    ∙ sym (step_is down (not s) x n (goes_on s n (rw (← same) i))))
  where
    goes_on : (b : Bool) (k : ℕ) → IsNode (shifted x (ups_of down b k)) → IsStep (not b) k
    goes_on false zero j = absurd (not_number _ x j (no_ups down x))
    goes_on true zero j = tt
    goes_on b (suc k) j = tt

-- {x|g} is no more of them where g is none with the number x
none-more : (x : Number) (down : Bool) (g : Game) → IsNode g → ((s : Bool) (k : ℕ) → ¬ (g ≡ shifted x (ups_of down s k)))
    → (starred : Bool) (z : Number) (n : ℕ)
    → ¬ (mirrored_if down (number x ∷ []) (g ∷ []) ≡ shifted z (ups_of down starred n))
none-more x down g i nil starred z n e = by (arrows_shape down starred z n (number x ∷ []) (g ∷ []) e)
  where
    by : ArrowsShape down starred z n (number x ∷ []) (g ∷ []) → ⊥
    by (level t m p q) = not_number g z i (one_same _ _ q)
    by (both t m p q) = one_not_two _ _ _ p
    by (step m j c p q) = nil (not starred) m (one_same _ _ q
        ∙ ap (λ k. shifted k (ups_of down (not starred) m)) (sym (one_value x z (one_same _ _ p))))

pub more-none : (x y : Number) → ¬ (x ≡ y) → (down s : Bool) (k : ℕ) (g : Game) → IsNode g
    → g ≡ shifted y (ups_of down s k) → (starred : Bool) (z : Number) (n : ℕ)
    → ¬ (mirrored_if down (number x ∷ []) (g ∷ []) ≡ shifted z (ups_of down starred n))
more-none x y d down s k g i f = none-more x down g i (λ t m e. d (one_base down t s x y m k (sym e ∙ f)))

pub on-none : (x : Number) (down : Bool) (g : Game) → ((s : Bool) (y : Number) (k : ℕ) → ¬ (g ≡ shifted y (ups_of down s k)))
    → IsNode g → (starred : Bool) (z : Number) (n : ℕ)
    → ¬ (mirrored_if down (number x ∷ []) (g ∷ []) ≡ shifted z (ups_of down starred n))
on-none x down g nil i = none-more x down g i (λ s k. nil s x k)

-- ---- tiny and miny

pub tiny-own : (miny : Bool) (x : Number) (ls rs : List Game) → mirrored_if miny ls rs ≡ tiny_form miny x
    → ls ≡ number zero_number ∷ []
tiny-own miny x ls rs e = mirrored-own miny ls rs (zero_form ∷ []) (tiny_part miny x ∷ []) e

pub tiny-other : (miny : Bool) (x : Number) (ls rs : List Game) → mirrored_if miny ls rs ≡ tiny_form miny x
    → rs ≡ tiny_part miny x ∷ []
tiny-other miny x ls rs e = mirrored-others miny ls rs (zero_form ∷ []) (tiny_part miny x ∷ []) e

-- what a game that is tiny of z, or miny, is made of
pub record IsTinyOf (x size rest z : Number) : Type 0 where
  pub none : x ≡ zero_number
  pub rest_none : rest ≡ zero_number
  pub size_is : size ≡ z

pub tiny-parts : (miny : Bool) (x l r size rest z : Number) → size ≡ cond miny l (number_negative r)
    → rest ≡ cond miny r l → mirrored_if miny (number x ∷ []) (pair_form l r ∷ []) ≡ tiny_form miny z
    → IsTinyOf x size rest z
tiny-parts miny x l r size rest z s t e = by miny s t
    (one_value x zero_number (one_same _ _ (tiny-own miny z (number x ∷ []) (pair_form l r ∷ []) e)))
    (one_same _ _ (tiny-other miny z (number x ∷ []) (pair_form l r ∷ []) e))
  where
    left : (a b c d : Number) → pair_form a b ≡ pair_form c d → a ≡ c
    left a b c d f = one_value a c (one_same (number a) (number c) (pair-lefts (number a ∷ []) (number b ∷ []) c d f))

    right : (a b c d : Number) → pair_form a b ≡ pair_form c d → b ≡ d
    right a b c d f = one_value b d (one_same (number b) (number d) (pair-rights (number a ∷ []) (number b ∷ []) c d f))

    by : (m : Bool) → size ≡ cond m l (number_negative r) → rest ≡ cond m r l → x ≡ zero_number
        → pair_form l r ≡ tiny_part m z → IsTinyOf x size rest z
    by false p q n f = record {
      none = n;
      rest_none = q ∙ left l r zero_number (number_negative z) f;
      size_is = p ∙ ap number_negative (right l r zero_number (number_negative z) f) ∙ double_negative z;
    }
    by true p q n f = record {
      none = n;
      rest_none = q ∙ right l r z zero_number f;
      size_is = p ∙ left l r z zero_number f;
    }

pub is_node : (g : Game) (ls rs : List Game) → g ≡ node ls rs → IsNode g
is_node g ls rs e = rw e tt

-- ---- what a named form tells of arrows

pub told : (down starred : Bool) (g : Game) (x : Number) (n : ℕ) → IsNode g → g ≡ shifted x (ups_of down starred n)
    → (named_form_of g ≡ Some (Star x 1)) ⊎ (named_form_of g ≡ Some (Arrows down starred x n))
told down false g x zero i e = absurd (not_number g x i (e ∙ no_ups down x))
told down true g x zero i e =
    inl (named_form-found g (Star x 1) (record { proper = some_is 1 (omega arith); form = e ∙ one_star_form down x }))
told down starred g x (suc n) i e =
    inr (named_form-found g (Arrows down starred x (suc n)) (record { proper = some_is (suc n) (omega arith); form = e }))

pub turned_same : (a b : Bool) → beq a b ≡ true → a ≡ b
turned_same true true e = refl
turned_same true false e = absurd cc
turned_same false true e = absurd cc
turned_same false false e = refl

pub turned_other : (a b : Bool) → beq a b ≡ false → ¬ (a ≡ b)
turned_other true true e f = cc
turned_other true false e f = cc
turned_other false true e f = cc
turned_other false false e f = cc

pub star_count : (x y : Number) (n m : ℕ) → Some (Star x n) ≡ Some (Star y m) → n ≡ m
star_count x y n m e = cc

pub arrows_side : (a b s t : Bool) (x y : Number) (n m : ℕ) → Some (Arrows a s x n) ≡ Some (Arrows b t y m) → a ≡ b
arrows_side a b s t x y n m e = cc

module _ (down : Bool) (g : Game) (o : Option NamedForm) (i : IsNode g) (is : o ≡ named_form_of g) where
  pub no_arrows_told : ((x : Number) → ¬ (o ≡ Some (Star x 1)))
      → ((starred : Bool) (x : Number) (n : ℕ) → ¬ (o ≡ Some (Arrows down starred x n))) → IsArrows down g None
  no_arrows_told a b starred x n e = elim (told down starred g x n i e) [
    | inl p ↦ a x (is ∙ p)
    | inr p ↦ b starred x n (is ∙ p)
  ]

  pub level_told : (x : Number) (n : ℕ) → o ≡ Some (Star x n) → n ≡ 1 → g ≡ shifted x (ups_of down true 0)
  level_told x n e f =
      (found-form g (Star x n) (sym is ∙ e)).form ∙ ap (λ (k : ℕ). shifted x (nimber_form k)) f
      ∙ sym (one_star_form down x)

  pub arrows_told : (turned starred : Bool) (x : Number) (n : ℕ) → o ≡ Some (Arrows turned starred x n) → turned ≡ down
      → g ≡ shifted x (ups_of down starred n)
  arrows_told turned starred x n e f =
      (found-form g (Arrows turned starred x n) (sym is ∙ e)).form ∙ ap (λ b. shifted x (ups_of b starred n)) f

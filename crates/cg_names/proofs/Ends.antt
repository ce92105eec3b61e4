-- The games with a named form that have none with a nimber, by the lists of their options.
use Rattle.std.proofs.Common.{◌≡◌, refl, ap, sym, ◌∙◌, ℕ, zero, suc, arith, inl, inr, ◌⊎◌, List, [], ◌∷◌, Bool, true, false, not, Option, Some, None}
use Rattle.cg_dyadic.specs.Exact.{number_negative}
use Rattle.cg_dyadic.specs.Number.{Number, number_le}
use Rattle.cg_dyadic.proofs.Truth.{not_true}
use Rattle.cg_form.specs.Game.{Game, node, number}
use Rattle.cg_form.specs.Shifted.{shifted}
use Rattle.cg_nodes.specs.Games.{IsNode}
use Rattle.cg_names.specs.Named.{mirrored_if, nimber_form, pair_form, switch_form, tiny_form, tiny_part, ups_of, zero_form, zero_number}
use Rattle.cg_names.specs.Readings.{AreUpStar, IsArrows, IsMore, IsStar, IsTiny, stars_above}
use Rattle.cg_names.specs.Shapes.{HasForm, named_form_of}
use Rattle.cg_names.specs.NamedForms.{IsPositive}
use Rattle.cg_names.specs.declared.named_form.NamedForm.{NamedForm}
use Rattle.cg_names.specs.declared.named_form.NamedForm.TheVariants.{Star, Arrows, Switch, Tiny}
use Rattle.cg_names.proofs.Guessing.{above_zero, one_value, named_form-found, named_form-none}
use Rattle.cg_names.proofs.Looks.{one_not_two, one_same, pair-lefts, pair-rights}
use Rattle.cg_names.proofs.NameRule.{some_is}
use Rattle.cg_names.proofs.NamedFormLists.{IsStep, both_is, mirrored-others, mirrored-own, not_number, star_above, star_over, step_is, step_node}

pub data Ends (g : Game) : Type 0 where
  switch : (x : Number) → IsPositive x → g ≡ switch_form x → Ends g
  tiny : (down : Bool) (x : Number) → IsPositive x → g ≡ tiny_form down x → Ends g
  step : (down starred : Bool) (x : Number) (n : ℕ) → IsStep starred n
      → g ≡ mirrored_if down (number x ∷ []) (shifted x (ups_of down (not starred) n) ∷ []) → Ends g
  both : (down : Bool) (x : Number) → g ≡ mirrored_if down (number x ∷ (star_above x ∷ [])) (number x ∷ []) → Ends g

ends : (g : Game) → IsStar g None → (s : NamedForm) → HasForm g s → Ends g
ends g i (Star x n) h =
    let (m, e) = above_zero n h.proper in
    absurd (i x m (h.form ∙ ap (λ (k : ℕ). shifted x (nimber_form k)) e))
ends g i (Arrows down starred x n) h =
    let (m, e) = above_zero n h.proper in
    by starred m (h.form ∙ ap (λ (k : ℕ). shifted x (ups_of down starred k)) e)
  where
    by : (t : Bool) (m : ℕ) → g ≡ shifted x (ups_of down t (suc m)) → Ends g
    by true zero f = both down x (f ∙ both_is down x)
    by false zero f = step down false x zero tt (f ∙ step_is down false x zero tt)
    by t (suc m) f = step down t x (suc m) tt (f ∙ step_is down t x (suc m) tt)
ends g i (Switch x) h = switch x (not_true (number_le x zero_number) h.proper) h.form
ends g i (Tiny down x) h = tiny down x (not_true (number_le x zero_number) h.proper) h.form

none_from : (g : Game) → IsStar g None → ¬ Ends g → None ≡ named_form_of g
none_from g i n = sym (named_form-none g (λ s h. n (ends g i s h)))

-- the same lists, or exchanged
sides : (d down : Bool) (xs ys ls rs : List Game) → mirrored_if d xs ys ≡ mirrored_if down ls rs
    → ((d ≡ down) × (xs ≡ ls) × (ys ≡ rs)) ⊎ ((xs ≡ rs) × (ys ≡ ls))
sides false false xs ys ls rs e = inl (refl, mirrored-own false xs ys ls rs e, mirrored-others false xs ys ls rs e)
sides true true xs ys ls rs e = inl (refl, mirrored-own true xs ys ls rs e, mirrored-others true xs ys ls rs e)
sides false true xs ys ls rs e = inr (mirrored-own false xs ys rs ls e, mirrored-others false xs ys rs ls e)
sides true false xs ys ls rs e = inr (mirrored-others false ys xs ls rs e, mirrored-own false ys xs ls rs e)

-- ---- no list of one option

pub no_ends : (ls rs : List Game) → IsStar (node ls rs) None → ((a : Game) → ¬ (ls ≡ a ∷ []))
    → ((a : Game) → ¬ (rs ≡ a ∷ [])) → None ≡ named_form_of (node ls rs)
no_ends ls rs i l r = none_from (node ls rs) i by
  where
    one : (d : Bool) (xs : List Game) (b : Game) → node ls rs ≡ mirrored_if d xs (b ∷ []) → ⊥
    one d xs b e = elim (sides false d ls rs xs (b ∷ []) e) [ inl p ↦ r b p.2 | inr p ↦ l b p.0 ]

    by : ¬ Ends (node ls rs)
    by (switch x p e) = l (number x) (pair-lefts ls rs x (number_negative x) e)
    by (tiny d x p e) = one d (zero_form ∷ []) (tiny_part d x) e
    by (step d t x n i e) = one d (number x ∷ []) (shifted x (ups_of d (not t) n)) e
    by (both d x e) = one d (number x ∷ (star_above x ∷ [])) (number x) e

-- ---- one option on one side

pub starred-found : (down : Bool) (own : List Game) (last : Game) (x : Number) → AreUpStar own last x
    → Some (Arrows down true x 1) ≡ named_form_of (mirrored_if down own (last ∷ []))
starred-found down own last x u =
    sym (named_form-found (mirrored_if down own (last ∷ [])) (Arrows down true x 1) (record {
      proper = some_is 1 (omega arith);
      form = ap (λ z. mirrored_if down z (last ∷ [])) u.own
          ∙ ap (λ z. mirrored_if down (number x ∷ (star_above x ∷ [])) (z ∷ [])) u.last ∙ sym (both_is down x);
    }))

pub starred-none : (down : Bool) (own : List Game) (last : Game) → IsStar (mirrored_if down own (last ∷ [])) None
    → ((a : Game) → ¬ (own ≡ a ∷ [])) → ((x : Number) → ¬ AreUpStar own last x)
    → None ≡ named_form_of (mirrored_if down own (last ∷ []))
starred-none down own last i l n = none_from (mirrored_if down own (last ∷ [])) i by
  where
    one : (d : Bool) (a b : Game) → mirrored_if down own (last ∷ []) ≡ mirrored_if d (a ∷ []) (b ∷ []) → ⊥
    one d a b e = elim (sides down d own (last ∷ []) (a ∷ []) (b ∷ []) e) [ inl p ↦ l a p.1 | inr p ↦ l b p.0 ]

    by : ¬ Ends (mirrored_if down own (last ∷ []))
    by (switch x p e) = one false (number x) (number (number_negative x)) e
    by (tiny d x p e) = one d zero_form (tiny_part d x) e
    by (step d t x m j e) = one d (number x) (shifted x (ups_of d (not t) m)) e
    by (both d x e) = elim (sides down d own (last ∷ []) (number x ∷ (star_above x ∷ [])) (number x ∷ []) e) [
      | inl p ↦ n x (record { own = p.1; last = one_same last (number x) p.2 })
      | inr p ↦ l (number x) p.0
    ]

-- ---- one option on each side

-- none of them a number
pub two-none : (a b : Game) → IsStar (node (a ∷ []) (b ∷ [])) None → ((x : Number) → ¬ (a ≡ number x))
    → ((x : Number) → ¬ (b ≡ number x)) → None ≡ named_form_of (node (a ∷ []) (b ∷ []))
two-none a b i l r = none_from (node (a ∷ []) (b ∷ [])) i by
  where
    one : (d : Bool) (x : Number) (ys : List Game) → node (a ∷ []) (b ∷ []) ≡ mirrored_if d (number x ∷ []) ys → ⊥
    one d x ys e = elim (sides false d (a ∷ []) (b ∷ []) (number x ∷ []) ys e) [
      | inl p ↦ l x (one_same a (number x) p.1)
      | inr p ↦ r x (one_same b (number x) p.1)
    ]

    by : ¬ Ends (node (a ∷ []) (b ∷ []))
    by (switch x p e) = one false x (number (number_negative x) ∷ []) e
    by (tiny d x p e) = one d zero_number (tiny_part d x ∷ []) e
    by (step d t x m j e) = one d x (shifted x (ups_of d (not t) m) ∷ []) e
    by (both d x e) = elim (sides false d (a ∷ []) (b ∷ []) (number x ∷ (star_above x ∷ [])) (number x ∷ []) e) [
      | inl p ↦ one_not_two a (number x) (star_above x) p.1
      | inr p ↦ one_not_two b (number x) (star_above x) p.1
    ]

-- both of them numbers
pub switch-found : (x y : Number) → not (number_le x zero_number) ≡ true → y ≡ number_negative x
    → Some (Switch x) ≡ named_form_of (pair_form x y)
switch-found x y p e = sym (named_form-found (pair_form x y) (Switch x) (record { proper = p; form = ap (pair_form x) e }))

pub switch-none : (x y : Number) → IsStar (pair_form x y) None → (IsPositive x → ¬ (y ≡ number_negative x))
    → None ≡ named_form_of (pair_form x y)
switch-none x y i n = none_from (pair_form x y) i by
  where
    one : (d : Bool) (xs : List Game) (b : Game) → IsNode b → pair_form x y ≡ mirrored_if d xs (b ∷ []) → ⊥
    one d xs b k e = elim (sides false d (number x ∷ []) (number y ∷ []) xs (b ∷ []) e) [
      | inl p ↦ not_number b y k (sym (one_same (number y) b p.2))
      | inr p ↦ not_number b x k (sym (one_same (number x) b p.0))
    ]

    by : ¬ Ends (pair_form x y)
    by (switch z p e) =
        let a : x ≡ z = one_value x z (one_same (number x) (number z)
        (pair-lefts (number x ∷ []) (number y ∷ []) z (number_negative z) e)) in
        n (rw a p) (one_value y (number_negative z) (one_same (number y) (number (number_negative z))
        (pair-rights (number x ∷ []) (number y ∷ []) z (number_negative z) e)) ∙ ap number_negative (sym a))
    by (tiny d z p e) = one d (zero_form ∷ []) (tiny_part d z) tt e
    by (step d t z m j e) = one d (number z ∷ []) (shifted z (ups_of d (not t) m)) (step_node d t z m j) e
    by (both d z e) =
        elim (sides false d (number x ∷ []) (number y ∷ []) (number z ∷ (star_above z ∷ [])) (number z ∷ []) e) [
          | inl p ↦ one_not_two (number x) (number z) (star_above z) p.1
          | inr p ↦ one_not_two (number y) (number z) (star_above z) p.1
        ]

-- a number and a game that is none
module _ (down : Bool) (x : Number) (h : Game) (is : IsNode h) where
  abbrev steep : Game
  steep = mirrored_if down (number x ∷ []) (h ∷ [])

  no_star : IsStar steep None
  no_star z n e =
      let L : List Game = stars_above z (suc n) in
      not_number h x is (one_same h (number x) (elim (sides down false (number x ∷ []) (h ∷ []) L L (e ∙ star_over z n)) [
        | inl p ↦ p.2 ∙ sym p.1
        | inr p ↦ p.1 ∙ sym p.0
      ]))

  steep-none : IsArrows down steep None → IsTiny down steep None → None ≡ named_form_of steep
  steep-none arrows none = none_from (mirrored_if down (number x ∷ []) (h ∷ [])) no_star by
    where
      by : ¬ Ends (mirrored_if down (number x ∷ []) (h ∷ []))
      by (switch z p e) = elim (sides down false (number x ∷ []) (h ∷ []) (number z ∷ []) (number (number_negative z) ∷ []) e) [
        | inl q ↦ not_number h (number_negative z) is (one_same h (number (number_negative z)) q.2)
        | inr q ↦ not_number h z is (one_same h (number z) q.1)
      ]
      by (tiny d z p e) = elim (sides down d (number x ∷ []) (h ∷ []) (zero_form ∷ []) (tiny_part d z ∷ []) e) [
        | inl q ↦ none z p (e ∙ ap (λ b. tiny_form b z) (sym q.0))
        | inr q ↦ not_number h zero_number is (one_same h zero_form q.1)
      ]
      by (step d t z m j e) =
          elim (sides down d (number x ∷ []) (h ∷ []) (number z ∷ []) (shifted z (ups_of d (not t) m) ∷ []) e) [
            | inl q ↦ arrows t z (suc m) (e ∙ sym (step_is d t z m j) ∙ ap (λ b. shifted z (ups_of b t (suc m))) (sym q.0))
            | inr q ↦ not_number h z is (one_same h (number z) q.1)
          ]
      by (both d z e) = elim (sides down d (number x ∷ []) (h ∷ []) (number z ∷ (star_above z ∷ [])) (number z ∷ []) e) [
        | inl q ↦ one_not_two (number x) (number z) (star_above z) q.1
        | inr q ↦ one_not_two h (number z) (star_above z) q.1
      ]

  pub more-named_form : (o : Option NamedForm) → IsMore down x h o → IsTiny down (mirrored_if down (number x ∷ []) (h ∷ [])) None
      → o ≡ named_form_of (mirrored_if down (number x ∷ []) (h ∷ []))
  more-named_form None m n = steep-none m n
  more-named_form (Some s) m n = sym (named_form-found (mirrored_if down (number x ∷ []) (h ∷ [])) s m)

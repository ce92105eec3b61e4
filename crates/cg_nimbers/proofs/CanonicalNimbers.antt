-- Nimbers rise in the structural order, and they are canonical.
use Rattle.std.proofs.Common.{◌≡◌, refl, append_assoc, ℕ, ◌<◌, arith, zero, suc, inl, inr, ap, sym, ◌∙◌, List, [], ◌∷◌, ◌++◌, Bool, true, false}
use Rattle.std.specs.declared.cmp.Ordering.TheVariants.{Less}
use Rattle.cg_dyadic.proofs.Integers.{le_or_gt}
use Rattle.cg_dyadic.proofs.Values.{number_le-refl}
use Rattle.cg_form.specs.Canonical.{Canonical}
use Rattle.cg_form.specs.Game.{Among, Game, of_list}
use Rattle.cg_form.specs.Side.{far, near}
use Rattle.cg_form.specs.Simple.{NoNumber}
use Rattle.cg_form.specs.Structure.{Before, Rises, list_cmp}
use Rattle.cg_form.proofs.Among.{among-append, carry}
use Rattle.cg_form.proofs.Structure.{game_cmp-refl}
use Rattle.cg_nimbers.specs.Nimbers.{nimber_form, nimber_over, nimbers_below, zero_form, zero_number}
use Rattle.cg_nimbers.proofs.Infinitesimals.{slight-no_number, slight-number}
use Rattle.cg_nimbers.proofs.NimberLists.{among_nimbers, far-nimber, near-nimber, nimber_far, nimber_near, nimbers_apart, nimbers_below-next}
use Rattle.cg_nimbers.proofs.Reducing.{SideReduced, canonical_node}

-- ---- the structural order

-- a list comes before one that goes on after it
list_cmp-longer : (gs hs : List Game) (h : Game) → list_cmp (of_list gs) (of_list (gs ++ (h ∷ hs))) ≡ Less
list_cmp-longer [] hs h = refl
list_cmp-longer (g ∷ gs) hs h = rw (game_cmp-refl g) (list_cmp-longer gs hs h)

before-longer : (gs hs : List Game) (h : Game) → Before (nimber_over gs) (nimber_over (gs ++ (h ∷ hs)))
before-longer [] hs h = refl
before-longer (g ∷ gs) hs h = rw (list_cmp-longer (g ∷ gs) hs h) refl

-- the list of the lesser ones is a front part of that of the greater
pub nimbers_below-front : (i k : ℕ) → i < k → (hs : List Game) × (nimbers_below k ≡ nimbers_below i ++
    (nimber_form i ∷ hs))
nimbers_below-front i zero l = absurd (omega arith)
nimbers_below-front i (suc k) l = elim (le_or_gt k i) [
  | inl m ↦ let e : k ≡ i = omega arith in
      ([], nimbers_below-next k ∙ ap (λ n. nimbers_below n ++ (nimber_form n ∷ [])) e)
  | inr m ↦ let (hs, e) = nimbers_below-front i k m in (
    hs ++ (nimber_form k ∷ []),
    nimbers_below-next k ∙ ap (λ z. z ++ (nimber_form k ∷ [])) e
        ∙ append_assoc (nimbers_below i) (nimber_form i ∷ hs) (nimber_form k ∷ []),
  )
]

pub nimber_before : (i k : ℕ) → i < k → Before (nimber_form i) (nimber_form k)
unfolding nimber_form
nimber_before i k l =
    let (hs, e) = nimbers_below-front i k l in
    rw e (before-longer (nimbers_below i) hs (nimber_form i))

-- one more at the end of a rising list
pub rises-one_more : (gs : List Game) (g : Game) → Rises gs → ((h : Game) → Among h gs → Before h g)
    → Rises (gs ++ (g ∷ []))
rises-one_more [] g r f = ((λ h m. absurd m), tt)
rises-one_more (h ∷ gs) g r f = (
  (λ a m. elim (among-append a gs (g ∷ []) m) [
    | inl n ↦ r.0 a n
    | inr (inl e) ↦ rw e (f h (inl refl))
    | inr (inr n) ↦ absurd n
  ]),
  rises-one_more gs g r.1 (λ a m. f a (inr m)),
)

pub nimbers-rise : (k : ℕ) → Rises (nimbers_below k)
unfolding nimbers_below
nimbers-rise zero = tt
nimbers-rise (suc k) =
    rw (nimbers_below-next k) (rises-one_more (nimbers_below k) (nimber_form k) (nimbers-rise k)
    (λ h m. let (i, l, e) = among_nimbers h k m in
    rw e (nimber_before i k l)))

-- ---- canonical

side_reduced : (s : Bool) (k : ℕ) → SideReduced s (nimber_form k)
side_reduced s k = record {
  apart = λ a b m n l.
      let (i, u, e) = among_nimbers a k (carry a (near s (nimber_form k)) (nimbers_below k) (near-nimber s k) m) in
      let (j, v, f) = among_nimbers b k (carry b (near s (nimber_form k)) (nimbers_below k) (near-nimber s k) n) in
      e ∙ ap nimber_form (nimbers_apart s i j (rw f at (rw e at l))) ∙ sym f;
  stays = λ a b m n l.
      let (i, u, e) = among_nimbers a k (carry a (near s (nimber_form k)) (nimbers_below k) (near-nimber s k) m) in
      let (j, v, f) = among_nimbers b i (carry b (far s (nimber_form i)) (nimbers_below i) (far-nimber s i)
      (rw e at n)) in
      let same : j ≡ k = nimbers_apart s j k (rw f at l) in
      omega arith;
  rises = rw (near-nimber s k) (nimbers-rise k);
}

zero_is : nimber_form 0 ≡ zero_form
unfolding nimber_form nimbers_below
zero_is = refl

no_number : (k : ℕ) → NoNumber (nimber_form (suc k))
no_number k =
    let l : 0 < suc k = omega arith in
    slight-no_number true (nimber_form (suc k)) zero_form (rw zero_is at (nimber_near true 0 (suc k) l))
    (rw zero_is at (nimber_far true 0 (suc k) l)) (slight-number true zero_number (number_le-refl zero_number))

canonical_over : (gs : List Game) → SideReduced true (nimber_over gs) → SideReduced false (nimber_over gs)
    → (¬ (gs ≡ []) → NoNumber (nimber_over gs)) → ((a : Game) → Among a gs → Canonical a) → Canonical (nimber_over gs)
canonical_over [] l r n f = tt
canonical_over (g ∷ gs) l r n f = canonical_node (g ∷ gs) (g ∷ gs) l r (n (λ e. absurd (cc))) f f

no_number_over : (k : ℕ) → ¬ (nimbers_below k ≡ []) → NoNumber (nimber_over (nimbers_below k))
unfolding nimber_form nimbers_below
no_number_over zero n = absurd (n refl)
no_number_over (suc k) n = no_number k

canonical_within : (n k : ℕ) → k < n → Canonical (nimber_form k)
unfolding nimber_form
canonical_within zero k l = absurd (omega arith)
canonical_within (suc n) k l = canonical_over (nimbers_below k) (side_reduced true k) (side_reduced false k)
    (no_number_over k)
    (λ a m. let (i, u, e) = among_nimbers a k m in
    rw e (canonical_within n i (omega arith)))

pub nimber-canonical : (k : ℕ) → Canonical (nimber_form k)
nimber-canonical k = canonical_within (suc k) k (omega arith)

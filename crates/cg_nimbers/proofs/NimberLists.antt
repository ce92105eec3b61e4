-- Nimbers: their lists of options, and that no two are comparable.
use Rattle.std.proofs.Common.{◌≡◌, refl, ℕ, ◌<◌, arith, zero, suc, inl, inr, ap, List, [], ◌∷◌, ◌++◌, Bool, true, false}
use Rattle.cg_dyadic.proofs.Integers.{le_or_gt}
use Rattle.cg_form.specs.Game.{Among, Game}
use Rattle.cg_form.specs.Side.{AtMost, far, near}
use Rattle.cg_form.proofs.Among.{among-append, among-append_left, among-append_right, lefts-node, rights-node}
use Rattle.cg_form.proofs.Sides.{not_far, not_near}
use Rattle.cg_nimbers.specs.Nimbers.{nimber_form, nimber_over, nimbers_below}

-- ---- the lists

pub nimbers_below-next : (k : ℕ) → nimbers_below (suc k) ≡ nimbers_below k ++ (nimber_form k ∷ [])
unfolding nimbers_below nimber_form
nimbers_below-next k = refl

-- the members of the list are the nimbers below k
pub nimber_among : (i k : ℕ) → i < k → Among (nimber_form i) (nimbers_below k)
nimber_among i zero l = absurd (omega arith)
nimber_among i (suc k) l =
    rw (nimbers_below-next k) (elim (le_or_gt k i) [
      | inl m ↦ let e : i ≡ k = omega arith in
          among-append_right _ (nimbers_below k) _ (inl (ap nimber_form e))
      | inr m ↦ among-append_left _ (nimbers_below k) _ (nimber_among i k m)
    ])

pub among_nimbers : (g : Game) (k : ℕ) → Among g (nimbers_below k) → (i : ℕ) × (i < k) × (g ≡ nimber_form i)
unfolding nimbers_below
among_nimbers g zero m = absurd m
among_nimbers g (suc k) m =
    elim (among-append g (nimbers_below k) (nimber_form k ∷ []) (rw (nimbers_below-next k) at m)) [
      | inl n ↦ let (i, l, e) = among_nimbers g k n in (i, omega arith, e)
      | inr (inl e) ↦ (k, omega arith, e)
      | inr (inr n) ↦ absurd n
    ]

-- both lists of options of *k
pub near-nimber : (s : Bool) (k : ℕ) → near s (nimber_form k) ≡ nimbers_below k
unfolding nimber_form
near-nimber s k = by s (nimbers_below k)
  where
    by : (s : Bool) (gs : List Game) → near s (nimber_over gs) ≡ gs
    by true [] = refl
    by false [] = refl
    by true (g ∷ gs) = lefts-node (g ∷ gs) (g ∷ gs)
    by false (g ∷ gs) = rights-node (g ∷ gs) (g ∷ gs)

pub far-nimber : (s : Bool) (k : ℕ) → far s (nimber_form k) ≡ nimbers_below k
far-nimber true k = near-nimber false k
far-nimber false k = near-nimber true k

pub nimber_near : (s : Bool) (i k : ℕ) → i < k → Among (nimber_form i) (near s (nimber_form k))
nimber_near s i k l = rw (near-nimber s k) (nimber_among i k l)

pub nimber_far : (s : Bool) (i k : ℕ) → i < k → Among (nimber_form i) (far s (nimber_form k))
nimber_far s i k l = rw (far-nimber s k) (nimber_among i k l)

-- ---- the order

-- no nimber is at most another
pub nimbers_apart : (s : Bool) (i j : ℕ) → AtMost s (nimber_form i) (nimber_form j) → i ≡ j
nimbers_apart s i j l = elim (le_or_gt i j) [
  | inl m ↦ elim (le_or_gt j i) [
    | inl n ↦ omega arith
    | inr n ↦ absurd (not_far s (nimber_form j) (nimber_form i) (nimber_far s i j n) l)
  ]
  | inr m ↦ absurd (not_near s (nimber_form i) (nimber_form j) (nimber_near s j i m) l)
]

-- The order of games by their options, and that it is decided.
use Rattle.std.proofs.Common.{◌≡◌, refl, ℕ, ◌+◌, ◌<◌, arith, zero, suc, ◌⊎◌, inl, inr, ap, sym, ◌∙◌, List, [], ◌∷◌, Bool, true, false, not, ◌&&◌, IsTrue}
use Rattle.cg_dyadic.proofs.Truth.{and-both, and-split, differ, false-from, true-or-not}
use Rattle.cg_form.specs.Game.{Among, Game, lefts, rights}
use Rattle.cg_form.specs.Order.{Le, le, le_within, no_one}
use Rattle.cg_form.specs.Size.{size}
use Rattle.cg_form.proofs.Size.{size-lefts, size-rights}

pub and-not : (b c : Bool) → IsTrue (not b && c) → (b ≡ false) × IsTrue c
and-not true c h = absurd (cc)
and-not false c h = (refl, h)

pub not-and : (b c : Bool) → b ≡ false → IsTrue c → IsTrue (not b && c)
not-and true c e h = absurd (cc)
not-and false c e h = h

-- the test fails for each of the list, or passes for one
pub all-or-some : (p : Game → Bool) (gs : List Game)
    → ((a : Game) → Among a gs → p a ≡ false) ⊎ ((a : Game) × Among a gs × IsTrue (p a))
all-or-some p [] = inl (λ a m. absurd m)
all-or-some p (g ∷ gs) =
    elim (true-or-not (p g)) [
      | inl t ↦ inr (g, inl refl, t)
      | inr f ↦ elim (all-or-some p gs) [
        | inl each ↦ inl (λ a m. elim m [ inl e ↦ ap p e ∙ false-from (p g) f | inr k ↦ each a k ])
        | inr (a, m, t) ↦ inr (a, inr m, t)
      ]
    ]

-- tests that agree on the list
pub no_one-agree : (p q : Game → Bool) (gs : List Game) → ((a : Game) → Among a gs → p a ≡ q a)
    → no_one p gs ≡ no_one q gs
no_one-agree p q [] h = refl
no_one-agree p q (g ∷ gs) h =
    let e : p g ≡ q g = h g (inl refl) in
    let r : no_one p gs ≡ no_one q gs = no_one-agree p q gs (λ a m. h a (inr m)) in
    cc

pub no_one-each : (p : Game → Bool) (gs : List Game) → IsTrue (no_one p gs) → (a : Game) → Among a gs → p a ≡ false
no_one-each p [] h a m = absurd m
no_one-each p (g ∷ gs) h a (inl e) = ap p e ∙ (and-not (p g) (no_one p gs) h).0
no_one-each p (g ∷ gs) h a (inr m) = no_one-each p gs ((and-not (p g) (no_one p gs) h).1) a m

pub no_one-all : (p : Game → Bool) (gs : List Game) → ((a : Game) → Among a gs → p a ≡ false) → IsTrue (no_one p gs)
no_one-all p [] h = refl
no_one-all p (g ∷ gs) h = not-and (p g) (no_one p gs) (h g (inl refl)) (no_one-all p gs (λ a m. h a (inr m)))

-- beyond the sizes the bound does not matter
pub le_within-any : (n m : ℕ) (g h : Game) → size g + size h < n → size g + size h < m
    → le_within n g h ≡ le_within m g h
unfolding le_within
le_within-any zero m g h p q = absurd (omega arith)
le_within-any (suc n) zero g h p q = absurd (omega arith)
le_within-any (suc n) (suc m) g h p q =
    let l : no_one (λ a. le_within n h a) (lefts g) ≡ no_one (λ a. le_within m h a) (lefts g) =
    no_one-agree (λ a. le_within n h a) (λ a. le_within m h a) (lefts g)
    (λ a k. let s = size-lefts g a k in le_within-any n m h a (omega arith) (omega arith)) in
    let r : no_one (λ b. le_within n b g) (rights h) ≡ no_one (λ b. le_within m b g) (rights h) =
    no_one-agree (λ b. le_within n b g) (λ b. le_within m b g) (rights h)
    (λ b k. let s = size-rights h b k in le_within-any n m b g (omega arith) (omega arith)) in
    cc

pub le_within-le : (n : ℕ) (g h : Game) → size g + size h < n → le_within n g h ≡ le g h
unfolding le
le_within-le n g h p = le_within-any n (suc (size g + size h)) g h p (omega arith)

-- the order, from the options
pub le-options : (g h : Game) → le g h ≡ (no_one (λ a. le h a) (lefts g) && no_one (λ b. le b g) (rights h))
unfolding le le_within
le-options g h =
    let l : no_one (λ a. le_within (size g + size h) h a) (lefts g) ≡ no_one (λ a. le h a) (lefts g) =
    no_one-agree (λ a. le_within (size g + size h) h a) (λ a. le h a) (lefts g)
    (λ a k. let s = size-lefts g a k in le_within-le (size g + size h) h a (omega arith)) in
    let r : no_one (λ b. le_within (size g + size h) b g) (rights h) ≡ no_one (λ b. le b g) (rights h) =
    no_one-agree (λ b. le_within (size g + size h) b g) (λ b. le b g) (rights h)
    (λ b k. let s = size-rights h b k in le_within-le (size g + size h) b g (omega arith)) in
    cc

-- no Left option A of G has H <= A and no Right option B of H has B <= G
pub record Fits (g h : Game) : Type 0 where
  pub on_left : (a : Game) → Among a (lefts g) → ¬ Le h a
  pub on_right : (b : Game) → Among b (rights h) → ¬ Le b g

pub le-unfold : (g h : Game) → Le g h → Fits g h
le-unfold g h p =
    let q = sym (le-options g h) ∙ p in
    let s = and-split (no_one (λ a. le h a) (lefts g)) (no_one (λ b. le b g) (rights h)) q in
    record {
      on_left = λ a m k. absurd (differ (le h a) k (no_one-each (λ a. le h a) (lefts g) s.0 a m));
      on_right = λ b m k. absurd (differ (le b g) k (no_one-each (λ b. le b g) (rights h) s.1 b m));
    }

pub le-fold : (g h : Game) → Fits g h → Le g h
le-fold g h f =
    le-options g h ∙ and-both (no_one (λ a. le h a) (lefts g)) (no_one (λ b. le b g) (rights h))
    (no_one-all (λ a. le h a) (lefts g) (λ a m. false-from (le h a) (f.on_left a m)))
    (no_one-all (λ b. le b g) (rights h) (λ b m. false-from (le b g) (f.on_right b m)))

-- every two games are compared
pub le-decide : (g h : Game) → Le g h ⊎ (¬ Le g h)
le-decide g h = true-or-not (le g h)

-- some option stands in the way
pub record Breaks (g h : Game) : Type 0 where
  pub way : ((a : Game) × Among a (lefts g) × Le h a) ⊎ ((b : Game) × Among b (rights h) × Le b g)

pub not_le-breaks : (g h : Game) → ¬ Le g h → Breaks g h
not_le-breaks g h n =
    elim (all-or-some (λ a. le h a) (lefts g)) [
      | inr x ↦ record { way = inl x }
      | inl p ↦ elim (all-or-some (λ b. le b g) (rights h)) [
        | inr y ↦ record { way = inr y }
        | inl q ↦ absurd (n (le-fold g h (record {
          on_left = λ a m k. absurd (differ (le h a) k (p a m));
          on_right = λ b m k. absurd (differ (le b g) k (q b m));
        })))
      ]
    ]

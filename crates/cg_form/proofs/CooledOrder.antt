-- Bounds on cooled scaffolds, and the order of two of them.
use Rattle.std.proofs.Common.{◌≡◌, ℕ, arith, zero, suc, inl, inr, ap, ℤ, pos, ◌+ℤ◌, ◌≤ℤ◌}
use Rattle.std.proofs.lemmas.Int.{ints}
use Rattle.cg_dyadic.proofs.Integers.{le_or_lt}
use Rattle.cg_form.specs.Cooling.{Cool}
use Rattle.cg_form.specs.Walls.{Walls, cooled}
use Rattle.cg_form.proofs.Cooled.{cooled-frozen, cooled-ordered, stays, uncrossed}

-- ---- bounds

pub left_is : (v w : Walls) → v ≡ w → v.left ≡ w.left
left_is v w e = ap (λ (z : Walls). z.left) e

pub right_is : (v w : Walls) → v ≡ w → v.right ≡ w.right
right_is v w e = ap (λ (z : Walls). z.right) e

pub cooled-left_below : (f : ℕ → Walls) (b : ℤ) → ((u : ℕ) → (f u).left ≤ℤ b) → (t : ℕ) → (cooled f t).left ≤ℤ b
cooled-left_below f b h zero = h zero
cooled-left_below f b h (suc t) = let i = cooled-left_below f b h t in let k = h (suc t) in
    elim (le_or_lt (f (suc t)).right (f (suc t)).left) [
      | inl p ↦ (let e = left_is (cooled f (suc t)) (f (suc t)) (uncrossed f (suc t) p) in omega (arith, ints))
      | inr p ↦ (let e = left_is (cooled f (suc t)) (cooled f t) (stays f t p) in omega (arith, ints))
    ]

pub cooled-right_above : (f : ℕ → Walls) (b : ℤ) → ((u : ℕ) → b ≤ℤ (f u).right) → (t : ℕ) → b ≤ℤ (cooled f t).right
cooled-right_above f b h zero = h zero
cooled-right_above f b h (suc t) = let i = cooled-right_above f b h t in let k = h (suc t) in
    elim (le_or_lt (f (suc t)).right (f (suc t)).left) [
      | inl p ↦ (let e = right_is (cooled f (suc t)) (f (suc t)) (uncrossed f (suc t) p) in omega (arith, ints))
      | inr p ↦ (let e = right_is (cooled f (suc t)) (cooled f t) (stays f t p) in omega (arith, ints))
    ]

-- against what rises, or falls, by at most 1
pub cooled-left_near : (f : ℕ → Walls) (x : ℕ → ℤ) → ((u : ℕ) → x u ≤ℤ ((f u).left +ℤ pos u))
    → ((u : ℕ) → x (suc u) ≤ℤ (x u +ℤ pos 1)) → (t : ℕ) → x t ≤ℤ ((cooled f t).left +ℤ pos t)
cooled-left_near f x h s zero = h zero
cooled-left_near f x h s (suc t) = let i = cooled-left_near f x h s t in let k = h (suc t) in let j = s t in
    elim (le_or_lt (f (suc t)).right (f (suc t)).left) [
      | inl p ↦ (let e = left_is (cooled f (suc t)) (f (suc t)) (uncrossed f (suc t) p) in omega (arith, ints))
      | inr p ↦ (let e = left_is (cooled f (suc t)) (cooled f t) (stays f t p) in omega (arith, ints))
    ]

pub cooled-right_near : (f : ℕ → Walls) (x : ℕ → ℤ) → ((u : ℕ) → (f u).right ≤ℤ (x u +ℤ pos u))
    → ((u : ℕ) → x u ≤ℤ (x (suc u) +ℤ pos 1)) → (t : ℕ) → (cooled f t).right ≤ℤ (x t +ℤ pos t)
cooled-right_near f x h s zero = h zero
cooled-right_near f x h s (suc t) = let i = cooled-right_near f x h s t in let k = h (suc t) in let j = s t in
    elim (le_or_lt (f (suc t)).right (f (suc t)).left) [
      | inl p ↦ (let e = right_is (cooled f (suc t)) (f (suc t)) (uncrossed f (suc t) p) in omega (arith, ints))
      | inr p ↦ (let e = right_is (cooled f (suc t)) (cooled f t) (stays f t p) in omega (arith, ints))
    ]

-- ---- two cooled scaffolds

pub record Under (v w : Walls) : Type 0 where
  pub left : v.left ≤ℤ w.left
  pub right : v.right ≤ℤ w.right

pub cool_order : (f k : ℕ → Walls) → Cool f → Cool k → ((u : ℕ) → (f u).left ≤ℤ (cooled k u).left)
    → ((u : ℕ) → (cooled f u).right ≤ℤ (k u).right) → (t : ℕ) → Under (cooled f t) (cooled k t)
cool_order f k c e a b zero = let i = a zero in let j = b zero in record { left = i; right = j }
cool_order f k c e a b (suc t) =
    let i = a (suc t) in let j = b (suc t) in
    let o = cooled-ordered f c.start (suc t) in let q = cooled-ordered k e.start (suc t) in
    let ih = cool_order f k c e a b t in let il = ih.left in let ir = ih.right in
    elim (le_or_lt (f (suc t)).right (f (suc t)).left) [
      | inl p ↦
          (let x = left_is (cooled f (suc t)) (f (suc t)) (uncrossed f (suc t) p) in
          elim (le_or_lt (k (suc t)).right (k (suc t)).left) [
            | inl r ↦ (let y = right_is (cooled k (suc t)) (k (suc t)) (uncrossed k (suc t) r) in
                record { left = omega (arith, ints); right = omega (arith, ints) })
            | inr r ↦ (let y = cooled-frozen k e (suc t) r in
                record { left = omega (arith, ints); right = omega (arith, ints) })
          ])
      | inr p ↦
          (let x = cooled-frozen f c (suc t) p in
          elim (le_or_lt (k (suc t)).right (k (suc t)).left) [
            | inl r ↦ (let y = right_is (cooled k (suc t)) (k (suc t)) (uncrossed k (suc t) r) in
                record { left = omega (arith, ints); right = omega (arith, ints) })
            | inr r ↦
                (let fl = left_is (cooled f (suc t)) (cooled f t) (stays f t p) in
                let fr = right_is (cooled f (suc t)) (cooled f t) (stays f t p) in
                let kl = left_is (cooled k (suc t)) (cooled k t) (stays k t r) in
                let kr = right_is (cooled k (suc t)) (cooled k t) (stays k t r) in
                record { left = omega (arith, ints); right = omega (arith, ints) })
          ])
    ]

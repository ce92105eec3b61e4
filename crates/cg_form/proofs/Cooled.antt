-- Scaffolds that fall and rise by at most 1, and the walls to which they are cooled.
use Rattle.std.proofs.Common.{◌≡◌, refl, ℕ, arith, zero, suc, inl, inr, ap, ◌∙◌, cond, pos, ◌+ℤ◌, ◌≤ℤ◌, ◌<ℤ◌}
use Rattle.std.proofs.lemmas.Int.{ints}
use lib.Signed.{le_z}
use Rattle.cg_dyadic.proofs.Integers.{from_le_z, le_or_lt, to_le_z}
use Rattle.cg_dyadic.proofs.Truth.{false-from, true-or-not}
use Rattle.cg_form.specs.Cooling.{Cool, Steps}
use Rattle.cg_form.specs.Walls.{Walls, cooled}

-- ---- steps

pub still : (v : Walls) → Steps v v
still v = record {
  left_falls = omega (arith, ints);
  left_by_one = omega (arith, ints);
  right_rises = omega (arith, ints);
  right_by_one = omega (arith, ints);
}

pub steps_along : (v v' w w' : Walls) → v ≡ v' → w ≡ w' → Steps v' w' → Steps v w
steps_along v v' w w' e f h = rw e (rw f h)

pub walls_same : (v w : Walls) → v.left ≡ w.left → v.right ≡ w.right → v ≡ w
walls_same v w p q = ap (λ z. let x : Walls = record { left = z; right = v.right } in x) p
    ∙ ap (λ z. let x : Walls = record { left = w.left; right = z } in x) q

-- ---- before and after the scaffolds cross

-- where the scaffolds have not crossed, the walls are the scaffolds
pub uncrossed : (f : ℕ → Walls) (t : ℕ) → (f t).right ≤ℤ (f t).left → cooled f t ≡ f t
uncrossed f zero h = refl
uncrossed f (suc t) h = ap (λ b. cond b (f (suc t)) (cooled f t)) (to_le_z (f (suc t)).right (f (suc t)).left h)

pub stays : (f : ℕ → Walls) (t : ℕ) → (f (suc t)).left <ℤ (f (suc t)).right → cooled f (suc t) ≡ cooled f t
stays f t h = ap (λ b. cond b (f (suc t)) (cooled f t))
    (false-from (le_z (f (suc t)).right (f (suc t)).left)
    (λ k. let l = from_le_z (f (suc t)).right (f (suc t)).left k in omega (arith, ints)))

pub cooled-steps : (f : ℕ → Walls) → ((t : ℕ) → Steps (f t) (f (suc t))) → (t : ℕ)
    → Steps (cooled f t) (cooled f (suc t))
cooled-steps f h t = elim (true-or-not (le_z (f (suc t)).right (f (suc t)).left)) [
  | inl p ↦
      let s = h t in
      let a = from_le_z (f (suc t)).right (f (suc t)).left p in
      let b = s.left_falls in let c = s.right_rises in
      rw (uncrossed f (suc t) a) (rw (uncrossed f t (omega (arith, ints))) s)
  | inr n ↦
      let e : cooled f (suc t) ≡ cooled f t = ap (λ b. cond b (f (suc t)) (cooled f t))
      (false-from (le_z (f (suc t)).right (f (suc t)).left) n) in
      rw e (still (cooled f t))
]

pub cooled-agree : (f k : ℕ → Walls) → ((t : ℕ) → f t ≡ k t) → (t : ℕ) → cooled f t ≡ cooled k t
cooled-agree f k h zero = h zero
cooled-agree f k h (suc t) = ap (λ z. cond (le_z z.right z.left) z (cooled f t)) (h (suc t))
    ∙ ap (λ z. cond (le_z (k (suc t)).right (k (suc t)).left) (k (suc t)) z) (cooled-agree f k h t)

-- ---- scaffolds that cool

pub ordered_along : (v w : Walls) → v ≡ w → w.right ≤ℤ w.left → v.right ≤ℤ v.left
ordered_along v w e h = rw e h

pub cooled-ordered : (f : ℕ → Walls) → (f 0).right ≤ℤ (f 0).left → (t : ℕ) → (cooled f t).right ≤ℤ (cooled f t).left
cooled-ordered f h zero = h
cooled-ordered f h (suc t) = elim (le_or_lt (f (suc t)).right (f (suc t)).left) [
  | inl p ↦ ordered_along (cooled f (suc t)) (f (suc t)) (uncrossed f (suc t) p) p
  | inr p ↦ ordered_along (cooled f (suc t)) (cooled f t) (stays f t p) (cooled-ordered f h t)
]

pub meet : (v w : Walls) → Steps v w → w.left <ℤ w.right → v.right ≤ℤ v.left
    → (v.left ≡ v.right +ℤ pos 1 → w.right ≡ w.left +ℤ pos 1 → ⊥) → v.left ≡ v.right
meet v w s h k n = elim (le_or_lt v.left v.right) [
  | inl p ↦ omega (arith, ints)
  | inr p ↦
      let a = s.left_falls in let b = s.left_by_one in let c = s.right_rises in let e = s.right_by_one in
      absurd (n (omega (arith, ints)) (omega (arith, ints)))
]

-- where the scaffolds have crossed, the walls have met
pub cooled-frozen : (f : ℕ → Walls) → Cool f → (t : ℕ) → (f t).left <ℤ (f t).right
    → (cooled f t).left ≡ (cooled f t).right
cooled-frozen f c zero h = let s = c.start in absurd (omega (arith, ints))
cooled-frozen f c (suc t) h = elim (le_or_lt (f t).right (f t).left) [
  | inl p ↦ rw (stays f t h ∙ uncrossed f t p) (meet (f t) (f (suc t)) (c.steps t) h p (c.no_jump t))
  | inr p ↦ rw (stays f t h) (cooled-frozen f c t p)
]

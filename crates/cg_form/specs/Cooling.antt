-- Scaffolds that cool: from t to t + 1 they close by at most 2, and they never pass each other between two whole units.
use Rattle.std.specs.Prelude.{ℕ, suc, ◌≡◌, pos, ◌+ℤ◌, ◌≤ℤ◌}
use Rattle.cg_form.specs.Walls.{Walls}

-- from v to w the left falls by at most 1, and the right rises by at most 1
pub record Steps (v w : Walls) : Type 0 where
  pub left_falls : w.left ≤ℤ v.left
  pub left_by_one : v.left ≤ℤ (w.left +ℤ pos 1)
  pub right_rises : v.right ≤ℤ w.right
  pub right_by_one : w.right ≤ℤ (v.right +ℤ pos 1)

-- the scaffolds start in order, and their difference does not pass from 1 to -1
pub record Cool (f : ℕ → Walls) : Type 0 where
  pub steps : (t : ℕ) → Steps (f t) (f (suc t))
  pub start : (f 0).right ≤ℤ (f 0).left
  pub no_jump : (t : ℕ) → (f t).left ≡ (f t).right +ℤ pos 1 → (f (suc t)).right ≡ (f (suc t)).left +ℤ pos 1 → ⊥

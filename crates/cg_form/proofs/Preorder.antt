-- The order of games is reflexive and transitive, and options are on its right side.
use Rattle.std.proofs.Common.{◌≡◌, ℕ, ◌+◌, ◌<◌, arith, zero, suc}
use Rattle.cg_form.specs.Game.{Among, Game, lefts, rights}
use Rattle.cg_form.specs.Order.{Equal, Le}
use Rattle.cg_form.specs.Size.{size}
use Rattle.cg_form.proofs.Order.{le-fold, le-unfold}
use Rattle.cg_form.proofs.Size.{size-lefts, size-rights}

pub le_refl_within : (n : ℕ) (g : Game) → size g < n → Le g g
le_refl_within zero g p = absurd (omega arith)
le_refl_within (suc n) g p = le-fold g g (record {
  on_left = λ a m k. let s = size-lefts g a m in (le-unfold g a k).on_left a m (le_refl_within n a (omega arith));
  on_right = λ b m k. let s = size-rights g b m in (le-unfold b g k).on_right b m (le_refl_within n b (omega arith));
})

pub le_refl : (g : Game) → Le g g
le_refl g = le_refl_within (suc (size g)) g (omega arith)

-- a Left option is never at least the game, and a Right option never at most
pub not_le-left : (g a : Game) → Among a (lefts g) → ¬ Le g a
not_le-left g a m k = (le-unfold g a k).on_left a m (le_refl a)

pub not_le-right : (g b : Game) → Among b (rights g) → ¬ Le b g
not_le-right g b m k = (le-unfold b g k).on_right b m (le_refl b)

pub le_trans_within : (n : ℕ) (g h k : Game) → size g + size h + size k < n → Le g h → Le h k → Le g k
le_trans_within zero g h k s p q = absurd (omega arith)
le_trans_within (suc n) g h k s p q = le-fold g k (record {
  on_left = λ a m r. let t = size-lefts g a m in
      (le-unfold g h p).on_left a m (le_trans_within n h k a (omega arith) q r);
  on_right = λ b m r. let t = size-rights k b m in
      (le-unfold h k q).on_right b m (le_trans_within n b g h (omega arith) r p);
})

pub le_trans : (g h k : Game) → Le g h → Le h k → Le g k
le_trans g h k p q = le_trans_within (suc (size g + size h + size k)) g h k (omega arith) p q

-- along equations of games
pub at_left : (x y z : Game) → x ≡ y → Le y z → Le x z
at_left x y z e l = rw e l

pub at_right : (x y z : Game) → x ≡ y → Le z y → Le z x
at_right x y z e l = rw e l

-- ---- equality of games

pub equal_refl : (g : Game) → Equal g g
equal_refl g = (le_refl g, le_refl g)

pub equal_trans : (g h k : Game) → Equal g h → Equal h k → Equal g k
equal_trans g h k e f = (le_trans g h k e.0 f.0, le_trans k h g f.1 e.1)

pub equal_back : (g h : Game) → Equal g h → Equal h g
equal_back g h e = (e.1, e.0)

pub equal_of : (g h : Game) → g ≡ h → Equal g h
equal_of g h e = rw e (equal_refl h)

-- ---- by the options alone

-- each Left option of g is at most one of h, and each Right option of h at least one of g
pub le-cofinal : (g h : Game)
    → ((a : Game) → Among a (lefts g) → (c : Game) × Among c (lefts h) × Le a c)
    → ((b : Game) → Among b (rights h) → (d : Game) × Among d (rights g) × Le d b)
    → Le g h
le-cofinal g h p q = le-fold g h (record {
  on_left = λ a m k. let (c, w, l) = p a m in not_le-left h c w (le_trans h a c k l);
  on_right = λ b m k. let (d, w, l) = q b m in not_le-right g d w (le_trans d b g l k);
})

-- The order as either side sees it.
use Rattle.std.proofs.Common.{◌≡◌, refl, ◌<◌, ◌⊎◌, inl, inr, List, Bool, true, false, not, IsTrue}
use Rattle.cg_dyadic.specs.Cut.{number_at_most}
use Rattle.cg_dyadic.specs.Number.{Number, number_lefts, number_rights}
use Rattle.cg_dyadic.proofs.Values.{left-le_number, less-le, number_le-trans, right-le_number}
use Rattle.cg_form.specs.Game.{Among, Game, node, number}
use Rattle.cg_form.specs.Order.{Equal}
use Rattle.cg_form.specs.Side.{AtMost, at_most, chosen, far, near}
use Rattle.cg_form.specs.Simple.{FitsIn, NoNumber}
use Rattle.cg_form.specs.Size.{size}
use Rattle.cg_form.proofs.Among.{among-map, lefts-node, rights-node}
use Rattle.cg_form.proofs.Numbers.{le-numbers, numbers-le}
use Rattle.cg_form.proofs.Order.{le-fold, le-unfold, not_le-breaks}
use Rattle.cg_form.proofs.Preorder.{le_refl, le_trans, not_le-left, not_le-right}
use Rattle.cg_form.proofs.Size.{size-lefts, size-rights}

pub record SideFits (s : Bool) (g h : Game) : Type 0 where
  pub on_near : (a : Game) → Among a (near s g) → ¬ AtMost s h a
  pub on_far : (b : Game) → Among b (far s h) → ¬ AtMost s b g

pub side_unfold : (s : Bool) (g h : Game) → AtMost s g h → SideFits s g h
side_unfold true g h p = let f = le-unfold g h p in record { on_near = f.on_left; on_far = f.on_right }
side_unfold false g h p = let f = le-unfold h g p in record { on_near = f.on_right; on_far = f.on_left }

pub side_fold : (s : Bool) (g h : Game) → SideFits s g h → AtMost s g h
side_fold true g h f = le-fold g h (record { on_left = f.on_near; on_right = f.on_far })
side_fold false g h f = le-fold h g (record { on_left = f.on_far; on_right = f.on_near })

pub side_refl : (s : Bool) (g : Game) → AtMost s g g
side_refl true g = le_refl g
side_refl false g = le_refl g

pub side_trans : (s : Bool) (g h k : Game) → AtMost s g h → AtMost s h k → AtMost s g k
side_trans true g h k p q = le_trans g h k p q
side_trans false g h k p q = le_trans k h g q p

pub side_equal : (s : Bool) (g h : Game) → Equal g h → AtMost s g h
side_equal true g h e = e.0
side_equal false g h e = e.1

pub equal_side : (s : Bool) (g h : Game) → AtMost s g h → AtMost s h g → Equal g h
equal_side true g h p q = (p, q)
equal_side false g h p q = (q, p)

-- a game that equals no number is not on both sides of one
pub not_both : (s : Bool) (g : Game) (x : Number) → NoNumber g → AtMost s (number x) g → ¬ AtMost s g (number x)
not_both true g x n p q = n x (p, q)
not_both false g x n p q = n x (q, p)

pub side_turned : (s : Bool) (g h : Game) → at_most (not s) g h ≡ at_most s h g
side_turned true g h = refl
side_turned false g h = refl

pub side_breaks : (s : Bool) (g h : Game) → ¬ AtMost s g h
    → ((a : Game) × Among a (near s g) × AtMost s h a) ⊎ ((b : Game) × Among b (far s h) × AtMost s b g)
side_breaks true g h n = (not_le-breaks g h n).way
side_breaks false g h n = elim ((not_le-breaks h g n).way) [ inl w ↦ inr w | inr w ↦ inl w ]

-- ---- options

pub not_near : (s : Bool) (g a : Game) → Among a (near s g) → ¬ AtMost s g a
not_near true g a m = not_le-left g a m
not_near false g a m = not_le-right g a m

pub not_far : (s : Bool) (g b : Game) → Among b (far s g) → ¬ AtMost s b g
not_far true g b m = not_le-right g b m
not_far false g b m = not_le-left g b m

pub size-near : (s : Bool) (g a : Game) → Among a (near s g) → size a < size g
size-near true g a m = size-lefts g a m
size-near false g a m = size-rights g a m

pub size-far : (s : Bool) (g a : Game) → Among a (far s g) → size a < size g
size-far true g a m = size-rights g a m
size-far false g a m = size-lefts g a m

pub near-node : (s : Bool) (ls rs : List Game) → near s (node ls rs) ≡ chosen s ls rs
near-node true ls rs = lefts-node ls rs
near-node false ls rs = rights-node ls rs

pub far-node : (s : Bool) (ls rs : List Game) → far s (node ls rs) ≡ chosen s rs ls
far-node true ls rs = rights-node ls rs
far-node false ls rs = lefts-node ls rs

-- ---- numbers

pub number_side-trans : (s : Bool) (x y z : Number) → IsTrue (number_at_most s x y) → IsTrue (number_at_most s y z)
    → IsTrue (number_at_most s x z)
number_side-trans true x y z p q = number_le-trans x y z p q
number_side-trans false x y z p q = number_le-trans z y x q p

pub number_side-less : (s : Bool) (x y : Number) → ¬ IsTrue (number_at_most s x y) → IsTrue (number_at_most s y x)
number_side-less true x y h = less-le x y h
number_side-less false x y h = less-le y x h

pub side-numbers : (s : Bool) (x y : Number) → IsTrue (number_at_most s x y) → AtMost s (number x) (number y)
side-numbers true x y p = numbers-le x y p
side-numbers false x y p = numbers-le y x p

pub numbers-side : (s : Bool) (x y : Number) → AtMost s (number x) (number y) → IsTrue (number_at_most s x y)
numbers-side true x y p = le-numbers x y p
numbers-side false x y p = le-numbers y x p

-- the options of a number are on its two sides
pub near_number : (s : Bool) (x : Number) (c : Game) → Among c (near s (number x)) → AtMost s c (number x)
near_number true x c m =
    let (y, e, k) = among-map (number_lefts x) number c m in
    rw e (numbers-le y x (left-le_number x y k))
near_number false x c m =
    let (y, e, k) = among-map (number_rights x) number c m in
    rw e (numbers-le x y (right-le_number x y k))

pub far_number : (s : Bool) (x : Number) (b : Game) → Among b (far s (number x))
    → (y : Number) × (b ≡ number y) × AtMost s (number x) (number y)
far_number true x b m = let (y, e, k) = among-map (number_rights x) number b m in
    (y, e, numbers-le x y (right-le_number x y k))
far_number false x b m = let (y, e, k) = among-map (number_lefts x) number b m in
    (y, e, numbers-le y x (left-le_number x y k))

-- a number that is better than the side's own options, and no better than the other side's, fits
pub side_fits : (s : Bool) (x : Number) (g : Game) → ((c : Game) → Among c (near s g) → ¬ AtMost s (number x) c)
    → ((b : Game) → Among b (far s g) → ¬ AtMost s b (number x)) → FitsIn x g
side_fits true x g f h = record { above = f; below = h }
side_fits false x g f h = record { above = h; below = f }

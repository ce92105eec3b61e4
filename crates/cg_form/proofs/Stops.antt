-- Numbers that bound a game as its stops do: at most one on each side, and in order.
use Rattle.std.proofs.Common.{◌≡◌, inl, inr}
use Rattle.cg_dyadic.specs.Number.{Number, NumberLe, number_le}
use Rattle.cg_dyadic.proofs.Middle.{middle, middle_between}
use Rattle.cg_dyadic.proofs.Truth.{true-or-not}
use Rattle.cg_dyadic.proofs.Values.{less-le, number_le-same}
use Rattle.cg_form.specs.Game.{Game, number}
use Rattle.cg_form.specs.Order.{Equal, Le}
use Rattle.cg_form.proofs.Numbers.{le-numbers, numbers-le}
use Rattle.cg_form.proofs.Preorder.{le_trans}

-- numbers below r are at most g, and numbers above r are not
pub record RightStop (g : Game) (r : Number) : Type 0 where
  pub low : (x : Number) → ¬ NumberLe r x → Le (number x) g
  pub high : (x : Number) → ¬ NumberLe x r → ¬ Le (number x) g

-- numbers above l are at least g, and numbers below l are not
pub record LeftStop (g : Game) (l : Number) : Type 0 where
  pub high : (x : Number) → ¬ NumberLe x l → Le g (number x)
  pub low : (x : Number) → ¬ NumberLe l x → ¬ Le g (number x)

-- the Left stop is never less than the Right stop
pub stops-ordered : (g : Game) (l r : Number) → LeftStop g l → RightStop g r → NumberLe r l
stops-ordered g l r ls rs = elim (true-or-not (number_le r l)) [
  | inl h ↦ h
  | inr h ↦
      let m : Number = middle l r in
      let a = middle_between l r h in
      let b = middle_between m r a.1 in
      absurd (b.0 (le-numbers (middle m r) m
      (le_trans (number (middle m r)) g (number m) (rs.low (middle m r) b.1) (ls.high m a.0))))
]

-- a number less than the Right stop is less than the game
pub less-right_stop : (g : Game) (r x : Number) → RightStop g r → ¬ NumberLe r x → Le (number x) g × (¬ Le g (number x))
less-right_stop g r x rs h =
    let a = middle_between x r h in (
      rs.low x h,
      λ k. a.0
          (le-numbers (middle x r) x (le_trans (number (middle x r)) g (number x) (rs.low (middle x r) a.1) k)),
    )

pub greater-left_stop : (g : Game) (l x : Number) → LeftStop g l → ¬ NumberLe x l
    → Le g (number x) × (¬ Le (number x) g)
greater-left_stop g l x ls h =
    let a = middle_between l x h in (
      ls.high x h,
      λ k. a.1
          (le-numbers x (middle l x) (le_trans (number x) g (number (middle l x)) k (ls.high (middle l x) a.0))),
    )

-- the greater game has the greater stops, so equal games have equal stops
pub right_stop-le : (g h : Game) (r s : Number) → RightStop g r → RightStop h s → Le g h → NumberLe r s
right_stop-le g h r s rg rh p = elim (true-or-not (number_le r s)) [
  | inl k ↦ k
  | inr k ↦ let a = middle_between s r k in
      absurd (rh.high (middle s r) a.0 (le_trans (number (middle s r)) g h (rg.low (middle s r) a.1) p))
]

pub left_stop-le : (g h : Game) (l m : Number) → LeftStop g l → LeftStop h m → Le g h → NumberLe l m
left_stop-le g h l m lg lh p = elim (true-or-not (number_le l m)) [
  | inl k ↦ k
  | inr k ↦ let a = middle_between m l k in
      absurd (lg.low (middle m l) a.1 (le_trans g h (number (middle m l)) p (lh.high (middle m l) a.0)))
]

pub equal-right_stop : (g h : Game) (r s : Number) → RightStop g r → RightStop h s → Equal g h → r ≡ s
equal-right_stop g h r s rg rh e = number_le-same r s (right_stop-le g h r s rg rh e.0)
    (right_stop-le h g s r rh rg e.1)

pub equal-left_stop : (g h : Game) (l m : Number) → LeftStop g l → LeftStop h m → Equal g h → l ≡ m
equal-left_stop g h l m lg lh e = number_le-same l m (left_stop-le g h l m lg lh e.0) (left_stop-le h g m l lh lg e.1)

-- the stops of a number are the number
pub number-right_stop : (x : Number) (g : Game) → Equal (number x) g → RightStop g x
number-right_stop x g e = record {
  low = λ y h. le_trans (number y) (number x) g (numbers-le y x (less-le x y h)) e.0;
  high = λ y h k. h (le-numbers y x (le_trans (number y) g (number x) k e.1));
}

pub number-left_stop : (x : Number) (g : Game) → Equal (number x) g → LeftStop g x
number-left_stop x g e = record {
  high = λ y h. le_trans g (number x) (number y) e.1 (numbers-le x y (less-le y x h));
  low = λ y h k. h (le-numbers x y (le_trans (number x) g (number y) e.0 k));
}

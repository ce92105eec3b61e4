-- Numbers as games are ordered as numbers.
use Rattle.std.proofs.Common.{ℕ, ◌+◌, ◌<◌, arith, zero, suc, inl, inr}
use Rattle.cg_dyadic.specs.Number.{Number, NumberLe, number_le, number_lefts, number_rights}
use Rattle.cg_dyadic.proofs.Truth.{true-or-not}
use Rattle.cg_dyadic.proofs.Values.{not_le-left_number, not_le-right_number, number_gap, number_le-trans}
use Rattle.cg_form.specs.Game.{number}
use Rattle.cg_form.specs.Order.{Le}
use Rattle.cg_form.specs.Size.{size}
use Rattle.cg_form.proofs.Among.{among-map, among_number}
use Rattle.cg_form.proofs.Order.{le-fold, le-unfold}
use Rattle.cg_form.proofs.Size.{size-lefts, size-rights}

pub record SameOrder (x y : Number) : Type 0 where
  pub to_game : NumberLe x y → Le (number x) (number y)
  pub to_number : Le (number x) (number y) → NumberLe x y

pub same_order : (n : ℕ) (x y : Number) → size (number x) + size (number y) < n → SameOrder x y
same_order zero x y s = absurd (omega arith)
same_order (suc n) x y s = record {
  to_game = λ p. le-fold (number x) (number y) (record {
    on_left = λ a m k.
        let (z, e, w) = among-map (number_lefts x) number a m in
        let t = size-lefts (number x) (number z) (among_number number z (number_lefts x) w) in
        not_le-left_number x z w (number_le-trans x y z p ((same_order n y z (omega arith)).to_number (rw e at k)));
    on_right = λ b m k.
        let (z, e, w) = among-map (number_rights y) number b m in
        let t = size-rights (number y) (number z) (among_number number z (number_rights y) w) in
        not_le-right_number y z w (number_le-trans z x y ((same_order n z x (omega arith)).to_number (rw e at k)) p);
  });
  to_number = λ p. elim (true-or-not (number_le x y)) [
    | inl h ↦ h
    | inr h ↦ elim ((number_gap x y h).way) [
      | inl (z, w, l) ↦
          let c = among_number number z (number_lefts x) w in
          let t = size-lefts (number x) (number z) c in
          absurd ((le-unfold (number x) (number y) p).on_left (number z) c ((same_order n y z (omega arith)).to_game l))
      | inr (z, w, l) ↦
          let c = among_number number z (number_rights y) w in
          let t = size-rights (number y) (number z) c in
          absurd ((le-unfold (number x) (number y) p).on_right (number z) c
          ((same_order n z x (omega arith)).to_game l))
    ]
  ];
}

pub numbers-le : (x y : Number) → NumberLe x y → Le (number x) (number y)
numbers-le x y h = (same_order (suc (size (number x) + size (number y))) x y (omega arith)).to_game h

pub le-numbers : (x y : Number) → Le (number x) (number y) → NumberLe x y
le-numbers x y h = (same_order (suc (size (number x) + size (number y))) x y (omega arith)).to_number h

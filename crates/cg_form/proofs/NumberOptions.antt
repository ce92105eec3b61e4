-- A game whose options all equal numbers, the Left ones less than the Right ones, equals a number.
use Rattle.std.proofs.Common.{◌≡◌, refl, inl, inr, Bool, true, false, List, [], ◌∷◌, sym}
use Rattle.cg_dyadic.specs.Cut.{number_at_most}
use Rattle.cg_dyadic.specs.Number.{Number, NumberLe, whole}
use Rattle.cg_dyadic.proofs.Middle.{middle, middle_between}
use Rattle.cg_dyadic.proofs.Truth.{true-or-not}
use Rattle.cg_form.specs.Game.{Among, Game, lefts, number, rights}
use Rattle.cg_form.specs.Order.{Equal, Le}
use Rattle.cg_form.specs.Side.{AtMost}
use Rattle.cg_form.specs.Simple.{FitsIn}
use Rattle.cg_form.proofs.Among.{carry}
use Rattle.cg_form.proofs.Integers.{no_lefts-integer, no_rights-integer}
use Rattle.cg_form.proofs.Numbers.{le-numbers}
use Rattle.cg_form.proofs.Preorder.{equal_back, le_trans}
use Rattle.cg_form.proofs.Sides.{number_side-less, side-numbers, side_equal, side_trans}
use Rattle.cg_form.proofs.Simplicity.{simplicity}

-- a number that equals one of the games and is the best of them
record Best (s : Bool) (gs : List Game) : Type 0 where
  value : Number
  best : (a : Game) → Among a gs → AtMost s a (number value)
  one : Game
  among : Among one gs
  equal : Equal (number value) one

best_of : (s : Bool) (g : Game) (gs : List Game) → ((a : Game) → Among a (g ∷ gs) → (x : Number) × Equal (number x) a)
    → Best s (g ∷ gs)
best_of s g [] each = let (x, e) = each g (inl refl) in record {
  value = x;
  best = λ a m. elim m [
    | inl f ↦ rw f (side_equal s g (number x) (equal_back (number x) g e))
    | inr k ↦ absurd k
  ];
  one = g;
  among = inl refl;
  equal = e;
}
best_of s g (h ∷ hs) each =
    let b = best_of s h hs (λ a m. each a (inr m)) in
    let (x, e) = each g (inl refl) in
    let first : AtMost s g (number x) = side_equal s g (number x) (equal_back (number x) g e) in
    elim (true-or-not (number_at_most s b.value x)) [
      | inl t ↦ record {
        value = x;
        best = λ a m. elim m [
          | inl f ↦ rw f first
          | inr k ↦ side_trans s a (number b.value) (number x) (b.best a k) (side-numbers s b.value x t)
        ];
        one = g;
        among = inl refl;
        equal = e;
      }
      | inr n ↦ record {
        value = b.value;
        best = λ a m. elim m [
          | inl f ↦ rw f (side_trans s g (number x) (number b.value) first
              (side-numbers s x b.value (number_side-less s b.value x n)))
          | inr k ↦ b.best a k
        ];
        one = b.one;
        among = inr b.among;
        equal = b.equal;
      }
    ]

pub number_between : (g : Game) → ((a : Game) → Among a (lefts g) → (x : Number) × Equal (number x) a)
    → ((b : Game) → Among b (rights g) → (x : Number) × Equal (number x) b)
    → ((a b : Game) → Among a (lefts g) → Among b (rights g) → ¬ Le b a) → (x : Number) × Equal (number x) g
number_between g ls rs less = go (lefts g) (rights g) refl refl
  where
    go : (us vs : List Game) → lefts g ≡ us → rights g ≡ vs → (x : Number) × Equal (number x) g
    go [] vs e f = let (n, k) = no_lefts-integer g e in (whole n, k)
    go (a ∷ us) [] e f = let (n, k) = no_rights-integer g f in (whole n, k)
    go (a ∷ us) (b ∷ vs) e f =
        let low = best_of true a us (λ c m. ls c (carry c (a ∷ us) (lefts g) (sym e) m)) in
        let high = best_of false b vs (λ c m. rs c (carry c (b ∷ vs) (rights g) (sym f) m)) in
        let x : Number = low.value in
        let y : Number = high.value in
        let apart : ¬ NumberLe y x = λ k. less low.one high.one (carry low.one (a ∷ us) (lefts g) (sym e) low.among)
        (carry high.one (b ∷ vs) (rights g) (sym f) high.among)
        (le_trans high.one (number y) low.one high.equal.1
        (le_trans (number y) (number x) low.one (side-numbers true y x k) low.equal.0)) in
        let between = middle_between x y apart in
        let fits : FitsIn (middle x y) g = record {
          above = λ c m k. between.0 (le-numbers (middle x y) x
              (le_trans (number (middle x y)) c (number x) k (low.best c (carry c (lefts g) (a ∷ us) e m))));
          below = λ c m k. between.1 (le-numbers y (middle x y)
              (le_trans (number y) c (number (middle x y)) (high.best c (carry c (rights g) (b ∷ vs) f m)) k));
        } in
        let s = simplicity (middle x y) g fits in
        (s.value, s.equal)

-- Sums keep the order, both ways.
use Rattle.std.proofs.Common.{ℕ, ◌+◌, ◌<◌, arith, zero, suc, inl, inr}
use Rattle.cg_form.specs.Game.{Game}
use Rattle.cg_form.specs.Order.{Le}
use Rattle.cg_form.specs.Size.{size}
use Rattle.cg_form.specs.Sum.{sum}
use Rattle.cg_form.proofs.Order.{le-decide, le-fold, le-unfold, not_le-breaks}
use Rattle.cg_form.proofs.Preorder.{le_trans, not_le-left, not_le-right}
use Rattle.cg_form.proofs.Size.{size-lefts, size-rights}
use Rattle.cg_form.proofs.Sum.{sum-left_cases, sum-left_first, sum-left_second, sum-right_cases, sum-right_first, sum-right_second}

pub record Kept (a b c : Game) : Type 0 where
  pub up : Le a b → Le (sum a c) (sum b c)
  pub down : ¬ Le b a → ¬ Le (sum b c) (sum a c)

pub sum-kept : (n : ℕ) (a b c : Game) → size a + size b + size c < n → Kept a b c
sum-kept zero a b c s = absurd (omega arith)
sum-kept (suc n) a b c s = record {
  up = λ p. le-fold (sum a c) (sum b c) (record {
    on_left = λ x m k. elim (sum-left_cases a c x m) [
      | inl (y, w, e) ↦
          let t = size-lefts a y w in
          (sum-kept n y b c (omega arith)).down ((le-unfold a b p).on_left y w) (rw e at k)
      | inr (y, w, e) ↦
          let t = size-lefts c y w in
          not_le-left (sum b c) (sum b y) (sum-left_second b c y w)
          (le_trans (sum b c) (sum a y) (sum b y) (rw e at k) ((sum-kept n a b y (omega arith)).up p))
    ];
    on_right = λ x m k. elim (sum-right_cases b c x m) [
      | inl (y, w, e) ↦
          let t = size-rights b y w in
          (sum-kept n a y c (omega arith)).down ((le-unfold a b p).on_right y w) (rw e at k)
      | inr (y, w, e) ↦
          let t = size-rights c y w in
          not_le-right (sum a c) (sum a y) (sum-right_second a c y w)
          (le_trans (sum a y) (sum b y) (sum a c) ((sum-kept n a b y (omega arith)).up p) (rw e at k))
    ];
  });
  down = λ p k. elim ((not_le-breaks b a p).way) [
    | inl (y, w, l) ↦
        let t = size-lefts b y w in
        not_le-left (sum b c) (sum y c) (sum-left_first b c y w)
        (le_trans (sum b c) (sum a c) (sum y c) k ((sum-kept n a y c (omega arith)).up l))
    | inr (y, w, l) ↦
        let t = size-rights a y w in
        not_le-right (sum a c) (sum y c) (sum-right_first a c y w)
        (le_trans (sum y c) (sum b c) (sum a c) ((sum-kept n y b c (omega arith)).up l) k)
  ];
}

pub sum-le : (a b c : Game) → Le a b → Le (sum a c) (sum b c)
sum-le a b c p = (sum-kept (suc (size a + size b + size c)) a b c (omega arith)).up p

pub le-sum : (a b c : Game) → Le (sum a c) (sum b c) → Le a b
le-sum a b c p = elim (le-decide a b) [
  | inl q ↦ q
  | inr q ↦ absurd ((sum-kept (suc (size b + size a + size c)) b a c (omega arith)).down q p)
]

-- Sums of numbers are ordered as the numbers say.
use Rattle.std.proofs.Common.{ℕ, ◌+◌, ◌≤◌, ◌<◌, arith, zero, suc, inl, inr, ◌+ℤ◌, ◌≤ℤ◌}
use Rattle.std.proofs.lemmas.Int.{ints}
use Rattle.cg_dyadic.specs.Number.{AmongNumbers, Number, exp_of, number_lefts, number_rights}
use Rattle.cg_dyadic.specs.Units.{units}
use Rattle.cg_dyadic.proofs.Integers.{le_or_lt}
use Rattle.cg_dyadic.proofs.SumGap.{exp-lefts, exp-rights, sum_gap_above, sum_gap_below, units-lefts, units-rights}
use Rattle.cg_form.specs.Game.{Among, lefts, number, rights}
use Rattle.cg_form.specs.Order.{Le}
use Rattle.cg_form.specs.Size.{size}
use Rattle.cg_form.specs.Sum.{sum}
use Rattle.cg_form.proofs.Among.{among-map, among_number}
use Rattle.cg_form.proofs.Order.{le-fold, le-unfold}
use Rattle.cg_form.proofs.Size.{size-lefts, size-rights}
use Rattle.cg_form.proofs.Sum.{sum-left_cases, sum-left_first, sum-left_second, sum-right_cases, sum-right_first, sum-right_second}

pub record Sums (s : ℕ) (x y z : Number) : Type 0 where
  pub le_to : (units s x +ℤ units s y) ≤ℤ units s z → Le (sum (number x) (number y)) (number z)
  pub le_from : Le (sum (number x) (number y)) (number z) → (units s x +ℤ units s y) ≤ℤ units s z
  pub ge_to : units s z ≤ℤ (units s x +ℤ units s y) → Le (number z) (sum (number x) (number y))
  pub ge_from : Le (number z) (sum (number x) (number y)) → units s z ≤ℤ (units s x +ℤ units s y)

left_in : (x a : Number) → AmongNumbers a (number_lefts x) → Among (number a) (lefts (number x))
left_in x a m = among_number number a (number_lefts x) m

right_in : (x a : Number) → AmongNumbers a (number_rights x) → Among (number a) (rights (number x))
right_in x a m = among_number number a (number_rights x) m

pub sum_numbers : (n s : ℕ) (x y z : Number) → size (number x) + size (number y) + size (number z) < n → exp_of x ≤ s
    → exp_of y ≤ s → exp_of z ≤ s → Sums s x y z
sum_numbers zero s x y z w p q r = absurd (omega arith)
sum_numbers (suc n) s x y z w p q r = record {
  le_to = λ h. le-fold (sum (number x) (number y)) (number z) (record {
    on_left = λ t m k.
        elim (sum-left_cases (number x) (number y) t m) [
          | inl (g, i, e) ↦
              let (a, f, j) = among-map (number_lefts x) number g i in
              let l = size-lefts (number x) (number a) (left_in x a j) in
              let u = units-lefts s x a p j in let v = exp-lefts x a j in
              let c = (sum_numbers n s a y z (omega arith) (omega arith) q r).ge_from (rw f at (rw e at k)) in
              absurd (omega (arith, ints))
          | inr (g, i, e) ↦
              let (a, f, j) = among-map (number_lefts y) number g i in
              let l = size-lefts (number y) (number a) (left_in y a j) in
              let u = units-lefts s y a q j in let v = exp-lefts y a j in
              let c = (sum_numbers n s x a z (omega arith) p (omega arith) r).ge_from (rw f at (rw e at k)) in
              absurd (omega (arith, ints))
        ];
    on_right = λ t m k.
        let (a, f, j) = among-map (number_rights z) number t m in
        let l = size-rights (number z) (number a) (right_in z a j) in
        let u = units-rights s z a r j in let v = exp-rights z a j in
        let c = (sum_numbers n s x y a (omega arith) p q (omega arith)).ge_from (rw f at k) in
        absurd (omega (arith, ints));
  });
  ge_to = λ h. le-fold (number z) (sum (number x) (number y)) (record {
    on_right = λ t m k.
        elim (sum-right_cases (number x) (number y) t m) [
          | inl (g, i, e) ↦
              let (a, f, j) = among-map (number_rights x) number g i in
              let l = size-rights (number x) (number a) (right_in x a j) in
              let u = units-rights s x a p j in let v = exp-rights x a j in
              let c = (sum_numbers n s a y z (omega arith) (omega arith) q r).le_from (rw f at (rw e at k)) in
              absurd (omega (arith, ints))
          | inr (g, i, e) ↦
              let (a, f, j) = among-map (number_rights y) number g i in
              let l = size-rights (number y) (number a) (right_in y a j) in
              let u = units-rights s y a q j in let v = exp-rights y a j in
              let c = (sum_numbers n s x a z (omega arith) p (omega arith) r).le_from (rw f at (rw e at k)) in
              absurd (omega (arith, ints))
        ];
    on_left = λ t m k.
        let (a, f, j) = among-map (number_lefts z) number t m in
        let l = size-lefts (number z) (number a) (left_in z a j) in
        let u = units-lefts s z a r j in let v = exp-lefts z a j in
        let c = (sum_numbers n s x y a (omega arith) p q (omega arith)).le_from (rw f at k) in
        absurd (omega (arith, ints));
  });
  le_from = λ k. elim (le_or_lt (units s x +ℤ units s y) (units s z)) [
    | inl h ↦ h
    | inr h ↦ elim ((sum_gap_above s x y z p q r h).way) [
      | inl (a, j, c) ↦
          let l = size-lefts (number x) (number a) (left_in x a j) in let v = exp-lefts x a j in
          absurd ((le-unfold (sum (number x) (number y)) (number z) k).on_left (sum (number a) (number y))
          (sum-left_first (number x) (number y) (number a) (left_in x a j))
          ((sum_numbers n s a y z (omega arith) (omega arith) q r).ge_to c))
      | inr (inl (a, j, c)) ↦
          let l = size-lefts (number y) (number a) (left_in y a j) in let v = exp-lefts y a j in
          absurd ((le-unfold (sum (number x) (number y)) (number z) k).on_left (sum (number x) (number a))
          (sum-left_second (number x) (number y) (number a) (left_in y a j))
          ((sum_numbers n s x a z (omega arith) p (omega arith) r).ge_to c))
      | inr (inr (a, j, c)) ↦
          let l = size-rights (number z) (number a) (right_in z a j) in let v = exp-rights z a j in
          absurd ((le-unfold (sum (number x) (number y)) (number z) k).on_right (number a) (right_in z a j)
          ((sum_numbers n s x y a (omega arith) p q (omega arith)).ge_to c))
    ]
  ];
  ge_from = λ k. elim (le_or_lt (units s z) (units s x +ℤ units s y)) [
    | inl h ↦ h
    | inr h ↦ elim ((sum_gap_below s x y z p q r h).way) [
      | inl (a, j, c) ↦
          let l = size-rights (number x) (number a) (right_in x a j) in let v = exp-rights x a j in
          absurd ((le-unfold (number z) (sum (number x) (number y)) k).on_right (sum (number a) (number y))
          (sum-right_first (number x) (number y) (number a) (right_in x a j))
          ((sum_numbers n s a y z (omega arith) (omega arith) q r).le_to c))
      | inr (inl (a, j, c)) ↦
          let l = size-rights (number y) (number a) (right_in y a j) in let v = exp-rights y a j in
          absurd ((le-unfold (number z) (sum (number x) (number y)) k).on_right (sum (number x) (number a))
          (sum-right_second (number x) (number y) (number a) (right_in y a j))
          ((sum_numbers n s x a z (omega arith) p (omega arith) r).le_to c))
      | inr (inr (a, j, c)) ↦
          let l = size-lefts (number z) (number a) (left_in z a j) in let v = exp-lefts z a j in
          absurd ((le-unfold (number z) (sum (number x) (number y)) k).on_left (number a) (left_in z a j)
          ((sum_numbers n s x y a (omega arith) p q (omega arith)).le_to c))
    ]
  ];
}

pub sums : (s : ℕ) (x y z : Number) → exp_of x ≤ s → exp_of y ≤ s → exp_of z ≤ s → Sums s x y z
sums s x y z = sum_numbers (suc (size (number x) + size (number y) + size (number z))) s x y z (omega arith)

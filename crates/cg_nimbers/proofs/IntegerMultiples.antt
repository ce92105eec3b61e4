-- Multiples by integers add up.
use Rattle.std.proofs.Common.{◌≡◌, refl, ap, sym, ◌∙◌, ℕ, zero, suc, ℤ, pos, negsuc, ◌+ℤ◌, arith}
use Rattle.std.proofs.lemmas.Int.{ints}
use Rattle.cg_form.specs.Game.{Game}
use Rattle.cg_form.specs.Multiple.{multiple}
use Rattle.cg_form.specs.Order.{Equal}
use Rattle.cg_form.specs.Sum.{negative, nothing, sum}
use Rattle.cg_form.proofs.EqualGames.{equal_assoc, equal_comm, sum_equal, zero_is}
use Rattle.cg_form.proofs.Negative.{sum-negative}
use Rattle.cg_form.proofs.Preorder.{equal_back, equal_of, equal_refl, equal_trans}
use Rattle.cg_form.proofs.SumLaws.{sum_nothing}
use Rattle.cg_form.proofs.SumOrder.{le-sum}
use Rattle.cg_nimbers.specs.Nimbers.{zero_form}
use Rattle.cg_nimbers.specs.NumberUpStar.{integer_multiple}

-- ---- sums of equal games

pub sum_first : (a b c : Game) → Equal a b → Equal (sum a c) (sum b c)
sum_first a b c e = sum_equal a c b c e (equal_refl c)

pub sum_second : (a b c : Game) → Equal a b → Equal (sum c a) (sum c b)
sum_second a b c e = sum_equal c a c b (equal_refl c) e

pub sum_zero : (g : Game) → Equal (sum g zero_form) g
sum_zero g = equal_trans (sum g zero_form) (sum g nothing) g (sum_second zero_form nothing g zero_is) (sum_nothing g)

pub zero_sum : (g : Game) → Equal (sum zero_form g) g
zero_sum g = equal_trans (sum zero_form g) (sum g zero_form) g (equal_comm zero_form g) (sum_zero g)

-- what is added to both sides may be left out
pub equal_cancel : (a b c : Game) → Equal (sum a c) (sum b c) → Equal a b
equal_cancel a b c e = (le-sum a b c e.0, le-sum b a c e.1)

-- (a + b) + (c + d) is (a + c) + (b + d)
pub sum_exchange : (a b c d : Game) → Equal (sum (sum a b) (sum c d)) (sum (sum a c) (sum b d))
sum_exchange a b c d =
    let left : Game = sum a (sum b (sum c d)) in
    let right : Game = sum a (sum c (sum b d)) in
    let inner : Equal (sum b (sum c d)) (sum c (sum b d)) =
    equal_trans (sum b (sum c d)) (sum (sum b c) d) (sum c (sum b d))
    (equal_back (sum (sum b c) d) (sum b (sum c d)) (equal_assoc b c d))
    (equal_trans (sum (sum b c) d) (sum (sum c b) d) (sum c (sum b d))
    (sum_first (sum b c) (sum c b) d (equal_comm b c)) (equal_assoc c b d)) in
    equal_trans (sum (sum a b) (sum c d)) left (sum (sum a c) (sum b d)) (equal_assoc a b (sum c d))
    (equal_trans left right (sum (sum a c) (sum b d)) (sum_second (sum b (sum c d)) (sum c (sum b d)) a inner)
    (equal_back (sum (sum a c) (sum b d)) right (equal_assoc a c (sum b d))))

module _ (g : Game) where
  abbrev times : ℤ → Game
  times n = integer_multiple n g

  -- the negative and the game cancel
  undone : (m : Game) → Equal (sum (sum m (negative g)) g) m
  undone m =
      let pair : Game = sum (negative g) g in
      equal_trans (sum (sum m (negative g)) g) (sum m pair) m (equal_assoc m (negative g) g)
      (equal_trans (sum m pair) (sum m nothing) m
      (sum_second pair nothing m (equal_trans pair (sum g (negative g)) nothing (equal_comm (negative g) g) (sum-negative g)))
      (sum_nothing m))

  below : (n : ℕ) → times (negsuc n +ℤ pos 1) ≡ multiple n (negative g)
  unfolding multiple
  below zero = ap times (let e : negsuc 0 +ℤ pos 1 ≡ pos 0 = omega (arith, ints) in e)
  below (suc k) = ap times (let e : negsuc (suc k) +ℤ pos 1 ≡ negsuc k = omega (arith, ints) in e)

  -- one more
  times-next : (n : ℤ) → Equal (times (n +ℤ pos 1)) (sum (times n) g)
  unfolding multiple
  times-next (pos n) = equal_of (times (pos n +ℤ pos 1)) (sum (times (pos n)) g)
      (ap times (let e : pos n +ℤ pos 1 ≡ pos (suc n) = omega (arith, ints) in e))
  times-next (negsuc n) =
      let m : Game = multiple n (negative g) in
      equal_trans (times (negsuc n +ℤ pos 1)) m (sum (sum m (negative g)) g)
      (equal_of (times (negsuc n +ℤ pos 1)) m (below n)) (equal_back (sum (sum m (negative g)) g) m (undone m))

  -- so many more
  times-add_up : (a : ℤ) (n : ℕ) → Equal (times (a +ℤ pos n)) (sum (times a) (times (pos n)))
  unfolding multiple
  times-add_up a zero =
      equal_trans (times (a +ℤ pos 0)) (times a) (sum (times a) zero_form)
      (equal_of (times (a +ℤ pos 0)) (times a) (ap times (let e : a +ℤ pos 0 ≡ a = omega (arith, ints) in e)))
      (equal_back (sum (times a) zero_form) (times a) (sum_zero (times a)))
  times-add_up a (suc n) =
      let t : Game = times (a +ℤ pos n) in
      let both : Game = sum (times a) (times (pos n)) in
      equal_trans (times (a +ℤ pos (suc n))) (sum t g) (sum (times a) (sum (times (pos n)) g))
      (equal_trans (times (a +ℤ pos (suc n))) (times ((a +ℤ pos n) +ℤ pos 1)) (sum t g)
      (equal_of (times (a +ℤ pos (suc n))) (times ((a +ℤ pos n) +ℤ pos 1))
      (ap times (let e : a +ℤ pos (suc n) ≡ (a +ℤ pos n) +ℤ pos 1 = omega (arith, ints) in e)))
      (times-next (a +ℤ pos n)))
      (equal_trans (sum t g) (sum both g) (sum (times a) (sum (times (pos n)) g)) (sum_first t both g (times-add_up a n))
      (equal_assoc (times a) (times (pos n)) g))

pub times_none : (g : Game) → integer_multiple (pos 0) g ≡ zero_form
unfolding multiple
times_none g = refl

pub times_one : (g : Game) → integer_multiple (pos 1) g ≡ sum zero_form g
unfolding multiple
times_one g = refl

-- a.G + b.G is (a + b).G
pub times-add : (g : Game) (a b : ℤ) → Equal (sum (integer_multiple a g) (integer_multiple b g)) (integer_multiple (a +ℤ b) g)
times-add g a (pos n) = equal_back (integer_multiple (a +ℤ pos n) g) (sum (integer_multiple a g) (integer_multiple (pos n) g))
    (times-add_up g a n)
times-add g a (negsuc n) =
    let T : ℤ → Game = λ k. integer_multiple k g in
    let less : ℤ = a +ℤ negsuc n in
    let copies : Game = T (pos (suc n)) in
    let up : Equal (T (less +ℤ pos (suc n))) (sum (T less) copies) = times-add_up g less (suc n) in
    let none : Equal (T (negsuc n +ℤ pos (suc n))) (sum (T (negsuc n)) copies) = times-add_up g (negsuc n) (suc n) in
    let back : T (less +ℤ pos (suc n)) ≡ T a = ap T (let e : (a +ℤ negsuc n) +ℤ pos (suc n) ≡ a = omega (arith, ints) in e) in
    let gone : T (negsuc n +ℤ pos (suc n)) ≡ T (pos 0) = ap T (let e : negsuc n +ℤ pos (suc n) ≡ pos 0 = omega (arith, ints) in e) in
    equal_cancel (sum (T a) (T (negsuc n))) (T less) copies
    (equal_trans (sum (sum (T a) (T (negsuc n))) copies) (sum (T a) (sum (T (negsuc n)) copies)) (sum (T less) copies)
    (equal_assoc (T a) (T (negsuc n)) copies)
    (equal_trans (sum (T a) (sum (T (negsuc n)) copies)) (T a) (sum (T less) copies)
    (equal_trans (sum (T a) (sum (T (negsuc n)) copies)) (sum (T a) zero_form) (T a)
    (sum_second (sum (T (negsuc n)) copies) zero_form (T a)
    (equal_trans (sum (T (negsuc n)) copies) (T (negsuc n +ℤ pos (suc n))) zero_form
    (equal_back (T (negsuc n +ℤ pos (suc n))) (sum (T (negsuc n)) copies) none)
    (equal_of (T (negsuc n +ℤ pos (suc n))) zero_form (gone ∙ times_none g))))
    (sum_zero (T a)))
    (equal_trans (T a) (T (less +ℤ pos (suc n))) (sum (T less) copies)
    (equal_of (T a) (T (less +ℤ pos (suc n))) (sym back)) up)))

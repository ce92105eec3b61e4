-- The sum of two sums of a number, of ups and of a nimber is one.
use Rattle.std.proofs.Common.{◌≡◌, refl, ap, ◌∙◌, ℕ, ◌+◌, ℤ, pos, ◌+ℤ◌, arith}
use Rattle.std.proofs.lemmas.Int.{ints}
use Rattle.std.specs.Prelude.{bit_xor}
use Rattle.cg_dyadic.specs.Exact.{IsNegative, IsSum}
use Rattle.cg_dyadic.specs.Number.{Number, exp_of, whole}
use Rattle.cg_dyadic.proofs.Sums.{negative-cancels, sum-units}
use Rattle.cg_form.specs.Game.{Game, number}
use Rattle.cg_form.specs.Order.{Equal}
use Rattle.cg_form.specs.Sum.{sum}
use Rattle.cg_form.proofs.EqualGames.{equal_assoc, equal_comm, sum_equal}
use Rattle.cg_form.proofs.Preorder.{equal_back, equal_of, equal_trans}
use Rattle.cg_form.proofs.SumNumbers.{sums}
use Rattle.cg_nimbers.specs.Nimbers.{nimber_form, nimbers_below, zero_form}
use Rattle.cg_nimbers.specs.NumberUpStar.{integer_multiple, number_up_star, up_form}
use Rattle.cg_nimbers.proofs.IntegerMultiples.{sum_exchange, sum_first, sum_second, sum_zero, times-add, times_none, times_one, zero_sum}
use Rattle.cg_nimbers.proofs.NimberSums.{nimber_sum}

-- ---- numbers

-- the sum of two numbers as games equals their sum
pub sum-numbers_equal : (x y z : Number) → IsSum x y z → Equal (number z) (sum (number x) (number y))
sum-numbers_equal x y z h =
    let s : ℕ = exp_of x + exp_of y + exp_of z in
    let u = sum-units s x y z (omega arith) (omega arith) (omega arith) h in
    let r = sums s x y z (omega arith) (omega arith) (omega arith) in
    (r.ge_to (omega (arith, ints)), r.le_to (omega (arith, ints)))

-- z is x less y
pub less-numbers_equal : (x y minus z : Number) → IsNegative y minus → IsSum x minus z
    → Equal (sum (number z) (number y)) (number x)
less-numbers_equal x y minus z n h =
    let X : Game = number x in
    let Y : Game = number y in
    let M : Game = number minus in
    let gone : Equal zero_form (sum Y M) = sum-numbers_equal y minus (whole (pos 0)) (negative-cancels y minus n) in
    let none : Equal (sum M Y) zero_form = equal_trans (sum M Y) (sum Y M) zero_form (equal_comm M Y)
    (equal_back zero_form (sum Y M) gone) in
    equal_trans (sum (number z) Y) (sum (sum X M) Y) X (sum_first (number z) (sum X M) Y (sum-numbers_equal x minus z h))
    (equal_trans (sum (sum X M) Y) (sum X (sum M Y)) X (equal_assoc X M Y)
    (equal_trans (sum X (sum M Y)) (sum X zero_form) X (sum_second (sum M Y) zero_form X none) (sum_zero X)))

-- ---- sums

-- x + n.^ + *m and y + k.^ + *j come to (x + y) + (n + k).^ + *(m xor j)
pub number_up_star-sum : (x y z : Number) (n k : ℤ) (m j : ℕ) → Equal (sum (number x) (number y)) (number z)
    → Equal (sum (number_up_star x n m) (number_up_star y k j)) (number_up_star z (n +ℤ k) (bit_xor m j))
number_up_star-sum x y z n k m j e =
    let T : ℤ → Game = λ i. integer_multiple i up_form in
    let first : Game = sum (T n) (nimber_form m) in
    let second : Game = sum (T k) (nimber_form j) in
    let both : Game = sum (sum (T n) (T k)) (sum (nimber_form m) (nimber_form j)) in
    let last : Game = sum (T (n +ℤ k)) (nimber_form (bit_xor m j)) in
    equal_trans (sum (number_up_star x n m) (number_up_star y k j)) (sum (sum (number x) (number y)) (sum first second))
    (number_up_star z (n +ℤ k) (bit_xor m j)) (sum_exchange (number x) first (number y) second)
    (sum_equal (sum (number x) (number y)) (sum first second) (number z) last e
    (equal_trans (sum first second) both last (sum_exchange (T n) (nimber_form m) (T k) (nimber_form j))
    (sum_equal (sum (T n) (T k)) (sum (nimber_form m) (nimber_form j)) (T (n +ℤ k)) (nimber_form (bit_xor m j))
    (times-add up_form n k) (nimber_sum m j))))

nimber_zero : nimber_form 0 ≡ zero_form
unfolding nimber_form nimbers_below
nimber_zero = refl

-- 0.^ + *0 is 0
nothing_added : Equal (sum (integer_multiple (pos 0) up_form) (nimber_form 0)) zero_form
nothing_added = equal_trans (sum (integer_multiple (pos 0) up_form) (nimber_form 0)) (sum zero_form zero_form) zero_form
    (equal_of (sum (integer_multiple (pos 0) up_form) (nimber_form 0)) (sum zero_form zero_form)
    (ap (λ g. sum g (nimber_form 0)) (times_none up_form) ∙ ap (sum zero_form) nimber_zero))
    (sum_zero zero_form)

-- a number, a nimber and ^ are such sums
pub number_up_star-number : (x : Number) → Equal (number x) (number_up_star x (pos 0) 0)
number_up_star-number x =
    let rest : Game = sum (integer_multiple (pos 0) up_form) (nimber_form 0) in
    equal_back (sum (number x) rest) (number x)
    (equal_trans (sum (number x) rest) (sum (number x) zero_form) (number x) (sum_second rest zero_form (number x) nothing_added)
    (sum_zero (number x)))

pub number_up_star-nimber : (m : ℕ) → Equal (nimber_form m) (number_up_star (whole (pos 0)) (pos 0) m)
number_up_star-nimber m =
    let rest : Game = sum (integer_multiple (pos 0) up_form) (nimber_form m) in
    let same : Equal rest (nimber_form m) =
    equal_trans rest (sum zero_form (nimber_form m)) (nimber_form m)
    (equal_of rest (sum zero_form (nimber_form m)) (ap (λ g. sum g (nimber_form m)) (times_none up_form)))
    (zero_sum (nimber_form m)) in
    equal_back (sum zero_form rest) (nimber_form m) (equal_trans (sum zero_form rest) rest (nimber_form m) (zero_sum rest) same)

pub number_up_star-up : Equal up_form (number_up_star (whole (pos 0)) (pos 1) 0)
number_up_star-up =
    let one : Game = integer_multiple (pos 1) up_form in
    let rest : Game = sum one (nimber_form 0) in
    let alone : Equal one up_form = equal_trans one (sum zero_form up_form) up_form
    (equal_of one (sum zero_form up_form) (times_one up_form)) (zero_sum up_form) in
    let same : Equal rest up_form = equal_trans rest (sum one zero_form) up_form
    (equal_of rest (sum one zero_form) (ap (sum one) nimber_zero)) (equal_trans (sum one zero_form) one up_form (sum_zero one) alone) in
    equal_back (sum zero_form rest) up_form (equal_trans (sum zero_form rest) rest up_form (zero_sum rest) same)

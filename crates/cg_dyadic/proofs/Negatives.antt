-- The negative of a number.
use Rattle.std.proofs.Common.{◌≡◌, refl, sym, pos, neg_ℤ}
use Rattle.std.proofs.lemmas.Int.{ints}
use Rattle.std.proofs.Common.{arith}
use Rattle.cg_dyadic.specs.Exact.{IsNegative, number_negative}
use Rattle.cg_dyadic.specs.Number.{Number, NumberLe, exp_of, num_of, whole}
use Rattle.cg_dyadic.proofs.Fractions.{fraction-own, fraction-ratio, fraction-unique}
use Rattle.cg_dyadic.proofs.Sums.{negative-exists, negative-order}

-- the negative is the one number of the other sign
pub negative-is : (x y : Number) → IsNegative x y → y ≡ number_negative x
negative-is x y h =
    fraction-unique (neg_ℤ (num_of x)) (exp_of x) y (number_negative x) (rw h.exp at (rw h.num at (fraction-own y)))
    (fraction-ratio (neg_ℤ (num_of x)) (exp_of x))

pub negative-of : (x : Number) → IsNegative x (number_negative x)
negative-of x =
    let (y, h) = negative-exists x in
    rw (negative-is x y h) at h

pub double_negative : (x : Number) → number_negative (number_negative x) ≡ x
double_negative x =
    let n = negative-of x in
    sym (negative-is (number_negative x) x (record {
      num = let a = n.num in omega (arith, ints);
      exp = sym n.exp;
    }))

pub negative_low : (x : Number) → NumberLe (whole (pos 0)) x → NumberLe (number_negative x) (whole (pos 0))
negative_low x l =
    (negative-order (whole (pos 0)) x (whole (pos 0)) (number_negative x) (record { num = refl; exp = refl })
    (negative-of x)).0 l

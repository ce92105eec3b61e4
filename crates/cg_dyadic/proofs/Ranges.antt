-- The test of the range.
use Rattle.std.proofs.Common.{◌≡◌, ◌^◌, arith, true, unsigned_abs}
use Rattle.std.specs.Prelude.{nat_lt}
use Rattle.cg_dyadic.specs.Number.{InRange, Number, exp_of, is_in_range, num_of}
use Rattle.cg_dyadic.proofs.Truth.{and-both, and-split, less-nat_lt, nat_lt-less}

pub in_range-from : (x : Number) → is_in_range x ≡ true → InRange x
in_range-from x t =
    let (a, b) = and-split (nat_lt (unsigned_abs (num_of x)) (2 ^ 64)) (nat_lt (exp_of x) 41) t in
    record {
      small = nat_lt-less (unsigned_abs (num_of x)) (2 ^ 64) a;
      short = let s = nat_lt-less (exp_of x) 41 b in omega arith;
    }

pub in_range-to : (x : Number) → InRange x → is_in_range x ≡ true
in_range-to x r = and-both (nat_lt (unsigned_abs (num_of x)) (2 ^ 64)) (nat_lt (exp_of x) 41)
    (less-nat_lt (unsigned_abs (num_of x)) (2 ^ 64) r.small)
    (less-nat_lt (exp_of x) 41 (let s = r.short in omega arith))

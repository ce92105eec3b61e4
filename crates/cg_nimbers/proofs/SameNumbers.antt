-- Numbers with the same numerator and exponent are the same.
use Rattle.std.proofs.Common.{◌≡◌, ap, sym, ◌∙◌, Bool, true, false, ◌&&◌, nat_eq, eqb-true, eq-eqb}
use Rattle.std.specs.Ordering.{int_eq}
use Rattle.std.proofs.lemmas.Bool.Decides.{Decides-int_eq}
use Rattle.cg_dyadic.specs.Number.{Number, exp_of, num_of}
use Rattle.cg_dyadic.proofs.Fractions.{fraction-own, fraction-unique}
use Rattle.cg_dyadic.proofs.Truth.{and-both, and-split, differ}

pub same_parts : (x y : Number) → num_of x ≡ num_of y → exp_of x ≡ exp_of y → x ≡ y
same_parts x y e f = fraction-unique (num_of y) (exp_of y) x y (rw f at (rw e at (fraction-own x))) (fraction-own y)

abbrev equal_parts : Number → Number → Bool
equal_parts x y = int_eq (num_of x) (num_of y) && nat_eq (exp_of x) (exp_of y)

pub tells_same : (x y : Number) (b : Bool) → b ≡ equal_parts x y → b ≡ true → x ≡ y
tells_same x y b e t =
    let (n, k) = and-split (int_eq (num_of x) (num_of y)) (nat_eq (exp_of x) (exp_of y)) (sym e ∙ t) in
    same_parts x y ((Decides-int_eq (num_of x) (num_of y)).0 n) (eqb-true (exp_of x) (exp_of y) k)

pub tells_other : (x y : Number) (b : Bool) → b ≡ equal_parts x y → b ≡ false → ¬ (x ≡ y)
tells_other x y b e f s =
    differ b (e ∙ and-both (int_eq (num_of x) (num_of y)) (nat_eq (exp_of x) (exp_of y))
    ((Decides-int_eq (num_of x) (num_of y)).1 (ap num_of s)) (eq-eqb (exp_of x) (exp_of y) (ap exp_of s))) f

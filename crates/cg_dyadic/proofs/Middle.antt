-- The number halfway between two.
use Rattle.std.proofs.Common.{ℕ, ◌+◌, arith, suc, ℤ, ◌+ℤ◌}
use Rattle.std.proofs.lemmas.Int.{ints}
use Rattle.cg_dyadic.specs.Number.{Number, NumberLe, exp_of, ratio}
use Rattle.cg_dyadic.specs.Units.{units}
use Rattle.cg_dyadic.proofs.Scale.{exp-ratio, le-units, not_le-units, units-ratio, units-suc}

pub middle : Number → Number → Number
middle p q = ratio (units (exp_of p + exp_of q) p +ℤ units (exp_of p + exp_of q) q) (suc (exp_of p + exp_of q))

pub middle_between : (p q : Number) → ¬ NumberLe q p → (¬ NumberLe (middle p q) p) × (¬ NumberLe q (middle p q))
unfolding middle
middle_between p q h =
    let s : ℕ = exp_of p + exp_of q in
    let m : ℤ = units s p +ℤ units s q in
    let l = not_le-units s q p (omega arith) (omega arith) h in
    let a = units-ratio m (suc s) in let e = exp-ratio m (suc s) in
    let b = units-suc s p (omega arith) in let c = units-suc s q (omega arith) in (
      λ k. let d = le-units (suc s) (ratio m (suc s)) p e (omega arith) k in omega (arith, ints),
      λ k. let d = le-units (suc s) q (ratio m (suc s)) (omega arith) e k in omega (arith, ints),
    )

use Rattle.std.proofs.Common.{◌∙◌, ap, arith, unsigned_abs, ◌+ℤ◌}
use Rattle.cg_dyadic.specs.Units.{units}
use Rattle.cg_dyadic.specs.Wide.{places}
use Rattle.cg_dyadic.proofs.Wides.{plus_word, plus_word2, sum-none, sum-some}
use Rattle.cg_dyadic.proofs.wide.Wide.plus.Goals as goal

pub returns-then-unsigned_abs : goal.returns-then-unsigned_abs
returns-then-unsigned_abs c =
    let u = c.units in let v = c.units-2 in
    let w = plus_word c.units.result c.units-2.result u.ensures.small v.ensures.small in
    sum-some c.args.self c.args.other c.of_units.result _ u.ensures.in_range v.ensures.in_range
    (w ∙ ap (λ z. z +ℤ c.units-2.result) u.ensures.value ∙ ap (λ z. units places c.args.self +ℤ z) v.ensures.value)
    (let x = ap unsigned_abs (plus_word2 c.units.result c.units-2.result u.ensures.small v.ensures.small) in let y = ap unsigned_abs w in let z = c.unsigned_abs.ensures.value in let t = c.if-unsigned_abs.true in omega arith) c.of_units.ensures

pub returns-else-unsigned_abs : goal.returns-else-unsigned_abs
returns-else-unsigned_abs c =
    let u = c.units in let v = c.units-2 in
    let w = plus_word c.units.result c.units-2.result u.ensures.small v.ensures.small in
    sum-none c.args.self c.args.other _ u.ensures.in_range v.ensures.in_range
    (w ∙ ap (λ z. z +ℤ c.units-2.result) u.ensures.value ∙ ap (λ z. units places c.args.self +ℤ z) v.ensures.value)
    (λ i. let x = ap unsigned_abs (plus_word2 c.units.result c.units-2.result u.ensures.small v.ensures.small) in let y = ap unsigned_abs w in let z = c.unsigned_abs.ensures.value in let t = c.if-unsigned_abs.false in omega arith)

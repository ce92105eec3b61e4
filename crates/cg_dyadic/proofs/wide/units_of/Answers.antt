use Rattle.std.proofs.Common.{◌≡◌, ◌^◌, ◌<◌, ◌-◌, ℤ, pos, ◌*ℤ◌, unsigned_abs, FitsSigned, to_z, of_z, ap, sym, ◌∙◌, subst}
use Rattle.std.proofs.lemmas.Int.{to_z-of_z}
use mir.Syntax.{w128}
use Rattle.cg_dyadic.specs.Units.{units}
use Rattle.cg_dyadic.specs.Wide.{places}
use Rattle.cg_dyadic.proofs.Wides.{units-fit, units-product, units-small}
use Rattle.cg_dyadic.proofs.wide.units_of.Goals as goal

product : (c : goal.After-power) → to_z w128 (of_z w128 c.num.result) *ℤ to_z w128 (of_z w128 c.power.result) ≡ units places c.args.x
product c = units-product c.args.x c.num.result c.power.result c.num.ensures.value (c.power.ensures ∙ ap (λ n. pos (2 ^ (60 - n))) c.exp.ensures.value) c.num.ensures.in_range

pub overflow_mul-result : goal.overflow_mul-result
overflow_mul-result c = subst (FitsSigned w128) (sym (product c)) (units-fit c.args.x c.num.ensures.in_range)

value : (c : goal.After-power) → to_z w128 (of_z w128 (to_z w128 (of_z w128 c.num.result) *ℤ to_z w128 (of_z w128 c.power.result))) ≡ units places c.args.x
value c = to_z-of_z w128 _ (subst (FitsSigned w128) (sym (product c)) (units-fit c.args.x c.num.ensures.in_range)) ∙ product c

pub returns-clause-value : goal.returns-clause-value
returns-clause-value c = value c

pub returns-clause-small : goal.returns-clause-small
returns-clause-small c = subst (λ (z : ℤ). unsigned_abs z < 2 ^ 126) (sym (value c)) (units-small c.args.x c.num.ensures.in_range)

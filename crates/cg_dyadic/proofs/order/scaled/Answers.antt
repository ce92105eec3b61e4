use Rattle.std.proofs.Common.{◌^◌, ◌<◌, ℤ, ◌*ℤ◌, pos, unsigned_abs, ap, sym, ◌∙◌, subst}
use Rattle.cg_dyadic.specs.Number.{num_of}
use Rattle.cg_dyadic.proofs.Words.{product_held, product_size, through_fits}
use Rattle.cg_dyadic.proofs.order.scaled.Goals as goal

pub overflow_mul-result : goal.overflow_mul-result
overflow_mul-result c = through_fits c.number.inside.num c.power.result c.args.exp c.power.ensures c.number.invariant.small c.requires

pub returns-clause-value : goal.returns-clause-value
returns-clause-value c = product_held c.number.inside.num c.power.result c.args.exp c.power.ensures c.number.invariant.small c.requires
    ∙ ap (λ (n : ℤ). n *ℤ pos (2 ^ c.args.exp)) (sym (ap num_of (sym c.number.view_is) ∙ c.number.invariant.num_is))

pub returns-clause-size : goal.returns-clause-size
returns-clause-size c = subst (λ (z : ℤ). unsigned_abs z < 2 ^ 105) (sym (product_held c.number.inside.num c.power.result c.args.exp c.power.ensures c.number.invariant.small c.requires))
    (product_size c.number.inside.num c.args.exp c.number.invariant.small c.requires)

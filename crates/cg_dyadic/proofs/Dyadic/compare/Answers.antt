use Rattle.std.proofs.Common.{◌≡◌, ◌∙◌, sym, ap, to_z, of_z}
use mir.Syntax.{w128}
use Rattle.cg_dyadic.specs.Number.{exp_of, number_cmp}
use Rattle.cg_dyadic.proofs.Compare.{number_cmp-same, number_cmp-through}
use Rattle.cg_dyadic.proofs.Words.{le-through}
use Rattle.cg_dyadic.proofs.Dyadic.compare.Goals as goal

order : (c : goal.After-cmp) → c.cmp.result ≡ number_cmp c.args.self c.args.other
order c =
    let self_exp = ap exp_of (sym c.self.view_is) ∙ c.self.invariant.exp_is in
    let other_exp = ap exp_of (sym c.other.view_is) ∙ c.other.invariant.exp_is in
    let left = c.scaled-left in
    let right = c.scaled-right in
    number_cmp-through c.args.self c.args.other (to_z w128 (of_z w128 left.result)) (to_z w128 (of_z w128 right.result)) c.cmp.result
    (le-through c.args.self c.args.other left.result right.result c.self.inside.exp c.other.inside.exp self_exp other_exp left.ensures.value right.ensures.value left.ensures.size right.ensures.size)
    (le-through c.args.other c.args.self right.result left.result c.other.inside.exp c.self.inside.exp other_exp self_exp right.ensures.value left.ensures.value right.ensures.size left.ensures.size)
    c.cmp.ensures

pub returns-clause-order : goal.returns-clause-order
returns-clause-order c = order c

pub returns-clause-same : goal.returns-clause-same
returns-clause-same c = let e = order c in let (same, equal) = number_cmp-same c.args.self c.args.other in (λ h. same (sym e ∙ h), λ h. e ∙ equal h)

use Rattle.std.proofs.Common.{◌∙◌, sym, ap}
use Rattle.cg_dyadic.specs.Number.{exp_of, num_of}
use Rattle.cg_dyadic.proofs.Words.{le-alike, le-through}
use Rattle.cg_dyadic.proofs.Dyadic.le.Goals as goal

pub returns-then-self-other-clause-value : goal.returns-then-self-other-clause-value
returns-then-self-other-clause-value c = le-alike c.args.self c.args.other c.self.inside.num c.other.inside.num c.self.inside.exp c.other.inside.exp
    (ap exp_of (sym c.self.view_is) ∙ c.self.invariant.exp_is) (ap exp_of (sym c.other.view_is) ∙ c.other.invariant.exp_is) c.if-self-other.true
    (ap num_of (sym c.self.view_is) ∙ c.self.invariant.num_is) (ap num_of (sym c.other.view_is) ∙ c.other.invariant.num_is)
    c.self.invariant.small c.other.invariant.small

pub returns-clause-value : goal.returns-clause-value
returns-clause-value c = le-through c.args.self c.args.other c.scaled.result c.scaled-2.result c.self-2.inside.exp c.other.inside.exp
    (ap exp_of (sym c.self-2.view_is) ∙ c.self-2.invariant.exp_is) (ap exp_of (sym c.other.view_is) ∙ c.other.invariant.exp_is)
    c.scaled.ensures.value c.scaled-2.ensures.value c.scaled.ensures.size c.scaled-2.ensures.size

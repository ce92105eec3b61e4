use Rattle.cg_dyadic.proofs.Results.{digits_tell}
use Rattle.cg_dyadic.proofs.Dyadic.from_digits.Goals as goal

pub returns : goal.returns
returns c = digits_tell c.args.negative c.args.num c.args.den c.in_ok-exp.exp c.lowest-size.result.0 c.lowest-size.result.1 c.in_range.result
    c.in_ok-exp.ensures.power c.lowest-size.ensures.same c.lowest-size.ensures.lowest c.in_range.ensures.num c.in_range.ensures.exp c.in_range.ensures.found c.in_range.ensures.none

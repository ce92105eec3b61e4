use Rattle.std.proofs.Common.{arith, ap}
use Rattle.cg_names.specs.Named.{pair_form, pair_positions, switch_form}
use Rattle.cg_names.proofs.PairSteps.{switch_pair, switch_positions}
use Rattle.cg_names.proofs.Steps.{given_from, given_positions}
use Rattle.cg_names.proofs.pairs.switch_of.Goals as goal

pub returns-then-limit-pair_count : goal.returns-then-limit-pair_count
returns-then-limit-pair_count g c =
    given_positions _ (switch_form c.args.x) (pair_positions c.args.x c.opposite-y.result)
    (switch_positions c.args.x c.opposite-y.result c.opposite-y.ensures)
    (omega (arith, c.if-limit-pair_count.true, c.limit.ensures, c.pair_count.ensures))

pub make_switch-requires : goal.make_switch-requires
make_switch-requires g c = switch_pair c.args.x c.opposite-y.result c.opposite-y.ensures c.requires

pub returns : goal.returns
returns g c =
    given_from _ _ _ (pair_form c.args.x c.opposite-y.result) (switch_form c.args.x)
    (pair_positions c.args.x c.opposite-y.result) (ap (pair_form c.args.x) c.opposite-y.ensures)
    (switch_positions c.args.x c.opposite-y.result c.opposite-y.ensures)
    (omega (arith, c.if-limit-pair_count.false, c.limit.ensures, c.pair_count.ensures)) c.make_switch.ensures

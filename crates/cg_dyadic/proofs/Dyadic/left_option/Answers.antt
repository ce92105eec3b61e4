use Rattle.std.proofs.Common.{rules}
use Rattle.cg_dyadic.proofs.Neighbours.{left_made, no_left_fault}
use Rattle.cg_dyadic.proofs.Dyadic.left_option.Goals as goal

pub unreachable-requires : goal.unreachable-requires
unreachable-requires c =
    let h = c.in-Err.ensures in
    no_left_fault c.args.self h.0 _ c.exp.result (search rules) c.exp.ensures.value (search rules) c.exp.ensures.in_range
    h.1 h.3

pub returns : goal.returns
returns c =
    left_made c.args.self c.in-Ok.option _ c.exp.result (search rules) c.exp.ensures.value (search rules)
    c.in-Ok.ensures.0

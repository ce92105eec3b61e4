use Rattle.std.proofs.Common.{arith, ap, nat_lt, if◌then◌else◌, ◌∙◌}
use Rattle.cg_domineering.proofs.Placing.{empty_marks}
use Rattle.cg_domineering.proofs.fitting.empty_cells.Goals as goal

pub returns : goal.returns
returns c =
    empty_marks c.args.board.now c.planes.result.a c.all_cells.result c.requires c.planes.ensures.grid
    (omega (arith, c.planes.type_inv)) (omega (arith, c.all_cells.type_inv)) c.planes.ensures.planes.a
    (λ i. c.all_cells.ensures i ∙ ap (λ n. if nat_lt i n then 1 else 0) c.size.ensures.value)

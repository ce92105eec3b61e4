use Rattle.std.proofs.Common.{◌+◌, ◌∙◌, ap}
use Rattle.std.specs.Int.{bit_at}
use Rattle.cg_domineering.proofs.Placing.{left_marks}
use Rattle.cg_domineering.proofs.fitting.left_spots.Goals as goal

pub returns : goal.returns
returns c =
    left_marks c.args.board.now c.args.empty c.moved_back-below.result c.requires
    (λ i. c.moved_back-below.ensures i ∙ ap (λ n. bit_at c.args.empty (i + n)) c.columns-columns.ensures.value)

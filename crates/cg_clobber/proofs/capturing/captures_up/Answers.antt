use Rattle.std.proofs.Common.{◌-◌, ◌∙◌, ap, arith}
use Rattle.std.specs.Int.{bit_at}
use Rattle.cg_clobber.proofs.CaptureMarks.{up_marks}
use Rattle.cg_clobber.proofs.capturing.captures_up.Goals as goal

pub returns : goal.returns
returns c =
    let s = c.requires in
    let col = s.columns in
    up_marks c.args.player c.args.board.now c.args.stones.own c.args.stones.others c.moved_on-moved.result
    c.size-size.ensures.grid.few (omega (arith, c.moved_on-moved.type_inv)) s.own s.others
    (λ i l. c.moved_on-moved.ensures.first i (omega (arith, l, col)))
    (λ i l m. c.moved_on-moved.ensures.others i (omega (arith, l, col)) m
    ∙ ap (λ n. bit_at c.args.stones.others (i - n)) col)

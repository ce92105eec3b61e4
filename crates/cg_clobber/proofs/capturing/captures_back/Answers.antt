use Rattle.std.proofs.Common.{arith}
use Rattle.cg_clobber.proofs.CaptureMarks.{back_marks, bit_and-below}
use Rattle.cg_clobber.proofs.capturing.captures_back.Goals as goal

pub returns : goal.returns
returns c =
    let s = c.requires in
    let both = bit_and-below c.args.stones.own c.moved_on-moved.result s.own_fits in
    back_marks c.args.player c.args.board.now c.args.stones.own c.args.stones.others c.moved_on-moved.result
    c.args.stones.first_column c.size-size.ensures.grid.few s.own_fits (omega (arith, c.moved_on-moved.type_inv)) s.first_fits
    s.own s.others s.first c.moved_on-moved.ensures.first c.moved_on-moved.ensures.others both

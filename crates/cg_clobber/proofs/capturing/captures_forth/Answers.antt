use Rattle.cg_clobber.proofs.CaptureMarks.{forth_marks}
use Rattle.cg_clobber.proofs.capturing.captures_forth.Goals as goal

pub returns : goal.returns
returns c =
    let s = c.requires in
    forth_marks c.args.player c.args.board.now c.args.stones.own c.args.stones.others c.moved_back-moved.result
    c.args.stones.first_column s.wide s.others_fit s.first_fits s.own s.others s.first c.moved_back-moved.ensures

use Rattle.std.proofs.Common.{◌+◌, ◌∙◌, ap}
use Rattle.std.specs.Int.{bit_at}
use Rattle.cg_clobber.proofs.CaptureMarks.{down_marks}
use Rattle.cg_clobber.proofs.capturing.captures_down.Goals as goal

pub returns : goal.returns
returns c =
    let s = c.requires in
    down_marks c.args.player c.args.board.now c.args.stones.own c.args.stones.others c.moved_back-moved.result s.own s.others
    (λ i. c.moved_back-moved.ensures i ∙ ap (λ n. bit_at c.args.stones.others (i + n)) s.columns)

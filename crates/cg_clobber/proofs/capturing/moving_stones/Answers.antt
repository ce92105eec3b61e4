use Rattle.cg_clobber.proofs.Moving.{stones-moving}
use Rattle.cg_clobber.proofs.capturing.moving_stones.Goals as goal

pub returns : goal.returns
returns c =
    stones-moving c.args.board.now c.stones_of-xs.ensures.wide c.captures_down.result c.captures_down-2.result
    c.captures_forth.result c.captures_forth-2.result c.captures_down.ensures c.captures_down-2.ensures
    c.captures_forth.ensures c.captures_forth-2.ensures

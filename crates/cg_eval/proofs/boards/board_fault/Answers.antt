use Rattle.std.specs.Prelude.{◌≡◌}
use Rattle.cg_eval.specs.Boards.{position_fault, position_of}
use Rattle.cg_eval.specs.Parts.{IsFaultOf}
use Rattle.cg_eval.proofs.BoardReads.{fault-of}
use Rattle.cg_eval.proofs.Replies.{if_ok_map}
use Rattle.cg_eval.proofs.boards.board_fault.Goals as goal

pub returns : goal.returns
returns c =
    let q = position_of c.args.kind c.args.rules.now c.args.board.now in
    let read = c.game_board-read.result in
    if_ok_map (λ o. IsFaultOf o read) (λ o. o ≡ position_fault q) c.fault_of.result
    (λ o h. fault-of q read o h c.game_board-read.ensures.read c.game_board-read.ensures.refused) c.fault_of.ensures

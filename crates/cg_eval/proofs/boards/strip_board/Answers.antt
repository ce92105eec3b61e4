use Rattle.cg_eval.proofs.BoardReads.{row-faulty, rules-faulty, strip-set_up}
use Rattle.cg_eval.proofs.boards.strip_board.Goals as goal

pub returns-in-Err-clause-refused : goal.returns-in-Err-clause-refused
returns-in-Err-clause-refused c = rules-faulty c.args.rules.now c.args.row.now c.in-Err.fault c.in-Err.ensures.refused

pub returns-in-Ok-board-clause-read : goal.returns-in-Ok-board-clause-read
returns-in-Ok-board-clause-read c =
    strip-set_up c.args.rules.now c.args.row.now c.in-Ok.strip c.in-Ok-board.board c.in-Ok.ensures.read
    c.in-Ok-board.ensures.read

pub returns-in-Err-board-clause-refused : goal.returns-in-Err-board-clause-refused
returns-in-Err-board-clause-refused c =
    row-faulty c.args.rules.now c.args.row.now c.in-Ok.strip c.in-Err-board.fault c.in-Ok.ensures.read
    c.in-Err-board.ensures.refused

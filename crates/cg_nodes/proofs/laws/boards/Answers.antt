use Rattle.cg_nodes.proofs.BoardContents.{board-only, contents-written, spelled-board}
use Rattle.cg_nodes.proofs.laws.boards.Goals as goal

pub returns : goal.returns
returns c = record { contents = contents-written; spelled = spelled-board; only = board-only }

use Rattle.cg_clobber.proofs.Placing.{symbols-are}
use Rattle.cg_clobber.proofs.capturing.captures.Goals as goal

pub stones_of-stones-requires-clause-symbols : goal.stones_of-stones-requires-clause-symbols
stones_of-stones-requires-clause-symbols c = symbols-are c.args.board.now c.requires

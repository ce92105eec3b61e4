use Rattle.cg_moves.proofs.WordBits.{marks_all}
use Rattle.cg_moves.proofs.words.all_cells.Goals as goal

pub returns : goal.returns
returns c = marks_all c.args.size c.requires.some c.requires.few

use Rattle.std.proofs.Common.{length}
use Rattle.cg_moves.proofs.RisingLemmas.{rising-rises}
use Rattle.cg_amazons.specs.Amazons.{queen, moves_below}
use Rattle.cg_amazons.proofs.AmazonsLaw.{move_is, move_has}
use Rattle.cg_amazons.proofs.laws.amazons_moves.Goals as goal

pub returns-clause-moves : goal.returns-clause-moves
returns-clause-moves c player p after some = (move_is player p after, move_has player p after some)

pub returns-clause-order : goal.returns-clause-order
returns-clause-order c player p = rising-rises (moves_below p.columns (queen player) p.cells (length p.cells))

use Rattle.cg_amazons.specs.Amazons.{with_queen}
use Rattle.cg_amazons.specs.MoveParts.{IsShot}
use Rattle.cg_amazons.specs.Taking.{AnyMarked, Takes}
use Rattle.cg_amazons.proofs.queens.move_queen.Given as goal

abbrev pub invariant-loop-to : goal.invariant-loop-to
invariant-loop-to l =
    Takes l.board l.initial.boards.items l.boards.items
    (AnyMarked l.places (λ place. IsShot l.words.shape.columns (with_queen l.board.cells l.from place l.words.queen) place) l.to)

use Rattle.cg_amazons.specs.MoveParts.{IsQueenMove}
use Rattle.cg_amazons.specs.Taking.{AnyMarked, Takes}
use Rattle.cg_amazons.proofs.queens.move_all.Given as goal

abbrev pub invariant-loop-from : goal.invariant-loop-from
invariant-loop-from l =
    Takes l.board l.initial.boards.items l.boards.items
    (AnyMarked l.words.queens (IsQueenMove l.words.shape.columns l.words.queen l.board.cells) l.from)

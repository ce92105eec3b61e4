use Rattle.std.proofs.Common.{arith}
use Rattle.cg_amazons.specs.Amazons.{with_queen}
use Rattle.cg_amazons.specs.MoveParts.{IsShot}
use Rattle.cg_amazons.proofs.Taken.{takes_if}
use Rattle.cg_amazons.proofs.queens.move_onto.Goals as goal

pub returns : goal.returns
returns c =
    takes_if c.args.board.now c.args.boards.now.items c.move_and_shoot.new.boards.items c.args.places
    (λ place. IsShot c.args.words.now.shape.columns (with_queen c.args.board.now.cells c.args.from place c.args.words.now.queen) place)
    c.args.to (let n = c.if-bit-eq0.false in let one = c.bit.ensures.one in let e = c.bit.ensures.value in omega arith)
    c.in_ok-move_and_shoot.ensures

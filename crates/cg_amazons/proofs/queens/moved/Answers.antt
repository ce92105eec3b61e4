use Rattle.std.proofs.Common.{ap, ◌∙◌}
use Rattle.cg_moves.specs.Grid.{Grid}
use Rattle.cg_moves.proofs.Carried.{ok_is}
use Rattle.cg_amazons.proofs.Taken.{has-empty}
use Rattle.cg_amazons.proofs.queens.moved.Goals as goal

pub set-requires-clause-symbol : goal.set-requires-clause-symbol
set-requires-clause-symbol c =
    rw (ok_is c.in_ok-after.after c.args.board.now c.in_ok-after.ensures)
    (has-empty c.args.board.now c.requires.words.has)

pub set-requires-2-clause-symbol : goal.set-requires-2-clause-symbol
set-requires-2-clause-symbol c =
    let same = ap (λ (q : Grid). q.symbols) c.set.ensures
    ∙ ap (λ (q : Grid). q.symbols) (ok_is c.in_ok-after.after c.args.board.now c.in_ok-after.ensures) in
    rw same c.requires.words.queen

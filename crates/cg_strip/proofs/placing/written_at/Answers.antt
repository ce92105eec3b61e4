use Rattle.std.proofs.Common.{List, ℕ, ap}
use Rattle.std.specs.Prelude.{Contains, slice_index}
use Rattle.cg_moves.specs.Grid.{Grid}
use Rattle.cg_strip.proofs.Written.{written_more}
use Rattle.cg_strip.proofs.placing.written_at.Goals as goal

pub set-requires-clause-symbol : goal.set-requires-clause-symbol
set-requires-clause-symbol c =
    rw (ap (λ (q : Grid). q.symbols) c.loop-offset.invariant)
    (c.requires.symbols c.loop-offset.offset c.loop-offset-test.true)

pub loop-offset-preserved : goal.loop-offset-preserved
loop-offset-preserved c =
    written_more c.args.board.now c.loop-offset.after c.set.new.self c.args.replacement.now c.args.cell c.loop-offset.offset 0
    c.loop-offset-test.true c.requires.fits c.loop-offset.invariant c.set.ensures

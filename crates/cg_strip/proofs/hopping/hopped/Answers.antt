use Rattle.std.proofs.Common.{List, ℕ, ap}
use Rattle.std.specs.Prelude.{Contains, slice_index}
use Rattle.cg_moves.specs.Grid.{Grid}
use Rattle.cg_strip.proofs.HopLemmas.{known_index, known_symbol}
use Rattle.cg_strip.proofs.Written.{written_more}
use Rattle.cg_strip.proofs.hopping.hopped.Goals as goal

pub index_of-requires : goal.index_of-requires
index_of-requires c =
    known_symbol c.args.board.now (slice_index c.args.replacement.now c.loop-offset.offset) c.requires.has
    (c.requires.symbols c.loop-offset.offset c.loop-offset-test.true)

pub set_known-requires-clause-symbol : goal.set_known-requires-clause-symbol
set_known-requires-clause-symbol c =
    rw (ap (λ (q : Grid). q.symbols) c.loop-offset.invariant)
    (c.requires.symbols c.loop-offset.offset c.loop-offset-test.true)

pub set_known-requires-clause-index : goal.set_known-requires-clause-index
set_known-requires-clause-index c =
    known_index c.args.board.now c.loop-offset.after _ (slice_index c.args.replacement.now c.loop-offset.offset)
    c.index_of.result c.requires.has c.loop-offset.invariant c.index_of.ensures.value

pub loop-offset-preserved : goal.loop-offset-preserved
loop-offset-preserved c =
    written_more c.args.board.now c.loop-offset.after c.set_known.new.self c.args.replacement.now c.args.cell
    c.loop-offset.offset 0 c.loop-offset-test.true c.requires.fits c.loop-offset.invariant c.set_known.ensures

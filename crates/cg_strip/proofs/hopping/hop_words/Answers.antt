use Rattle.std.proofs.Common.{bit_and, arith}
use Rattle.cg_moves.specs.declared.player.Player.{Player}
use Rattle.cg_strip.specs.Hops.{AreHopWords}
use Rattle.cg_strip.proofs.Changes.{toad_jumps}
use Rattle.cg_strip.proofs.HopLemmas.{frog_words, toad_words}
use Rattle.cg_strip.proofs.hopping.hop_words.Goals as goal

pub places-frogs-requires : goal.places-frogs-requires
places-frogs-requires c = (toad_jumps c.args.board.now c.requires).old 1 (omega arith)

pub returns-in-Left : goal.returns-in-Left
returns-in-Left c =
    rw c.in-Left.is (toad_words c.args.board.now.cells c.places-toads.result c.places-frogs.result
    c.places-empty.result c.moved_back-beside.result c.moved_back-over.result c.moved_back-beyond.result
    c.places-toads.ensures.places c.places-frogs.ensures.places c.places-empty.ensures.places c.moved_back-beside.ensures
    c.moved_back-over.ensures c.moved_back-beyond.ensures)

pub returns-in-Right : goal.returns-in-Right
returns-in-Right c =
    rw c.in-Right.is (frog_words c.args.board.now.cells c.places-toads.result c.places-frogs.result
    c.places-empty.result c.moved_back-beside-in-Right.result c.moved_back-over-in-Right.result
    c.moved_back-beyond-in-Right.result c.places-toads.ensures.places c.places-frogs.ensures.places
    c.places-empty.ensures.places c.moved_back-beside-in-Right.ensures c.moved_back-over-in-Right.ensures
    c.moved_back-beyond-in-Right.ensures)

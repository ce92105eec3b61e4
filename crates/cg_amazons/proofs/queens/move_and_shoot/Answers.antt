use Rattle.std.proofs.Common.{◌*◌, ◌∙◌}
use Rattle.cg_amazons.specs.Amazons.{with_queen}
use Rattle.cg_amazons.proofs.AmazonsLaw.{queen_long}
use Rattle.cg_amazons.proofs.QueenMoves.{free_moved, shots_taken}
use Rattle.cg_amazons.proofs.Taken.{takes_like}
use Rattle.cg_amazons.proofs.queens.move_and_shoot.Goals as goal

pub shoot-requires : goal.shoot-requires
shoot-requires c =
    rw c.in_ok-moved.ensures c.requires.words.has

pub returns : goal.returns
returns c =
    let w = c.args.words.now in
    let p = c.args.board.now in
    let after = with_queen p.cells c.args.from c.args.to w.queen in
    shots_taken p w.shape.columns after c.with_bit-free.result
    c.reached-targets.result (w.shape.rows * w.shape.columns) c.args.to c.args.boards.now.items c.shoot.new.boards.items
    (queen_long p.cells c.args.from c.args.to w.queen ∙ c.requires.words.words.size)
    (free_moved p.cells w.free c.with_bit-left.result c.with_bit-free.result c.args.from c.args.to w.queen c.requires.from
    c.requires.to c.requires.words.words.other c.requires.words.words.free c.with_bit-left.ensures c.with_bit-free.ensures)
    c.reached-targets.ensures
    (takes_like p after c.args.boards.now.items c.shoot.new.boards.items _ (rw c.in_ok-moved.ensures at c.in_ok-shoot.ensures))

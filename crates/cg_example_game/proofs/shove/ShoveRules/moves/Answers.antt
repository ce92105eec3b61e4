use Rattle.cg_moves.specs.Grid.{with_cells}
use Rattle.cg_moves.proofs.MoveLemmas.{listed_next}
use Rattle.cg_example_game.specs.Shove.{moves_at}
use Rattle.cg_example_game.proofs.shove.ShoveRules.moves.Goals as goal

pub loop-at-preserved : goal.loop-at-preserved
loop-at-preserved c =
    listed_next (with_cells c.args.board.now) (moves_at c.args.player c.args.board.now) c.loop-at.at
    c.loop-at.boards.items c.put_move.new.boards.items c.loop-at.invariant c.in_ok-put_move.ensures

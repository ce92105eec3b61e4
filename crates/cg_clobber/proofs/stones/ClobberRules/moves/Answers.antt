use Rattle.std.proofs.Common.{ap, map, ◌∙◌}
use Rattle.cg_moves.specs.Grid.{with_cells}
use Rattle.cg_clobber.proofs.CaptureMarks.{wide}
use Rattle.cg_clobber.proofs.PairRise.{pairs-are}
use Rattle.cg_clobber.proofs.stones.ClobberRules.moves.Goals as goal

pub returns : goal.returns
returns c =
    let p = c.args.board.now in
    c.of.ensures ∙ c.in_ok-boards_in.ensures ∙ ap (map (with_cells p)) (pairs-are c.args.player p (wide p c.requires))

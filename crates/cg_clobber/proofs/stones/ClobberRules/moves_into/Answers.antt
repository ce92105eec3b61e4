use Rattle.std.proofs.Common.{◌≡◌, map, ap, ◌∙◌}
use Rattle.std.proofs.lemmas.Result.{IfOk-weaker}
use Rattle.cg_moves.specs.Grid.{with_cells}
use Rattle.cg_moves.specs.Rules.{boards_after}
use Rattle.cg_clobber.specs.Moves.{clobber}
use Rattle.cg_clobber.specs.Pairs.{by_pairs}
use Rattle.cg_clobber.proofs.CaptureMarks.{wide}
use Rattle.cg_clobber.proofs.PairRise.{pairs-are}
use Rattle.cg_clobber.proofs.stones.ClobberRules.moves_into.Goals as goal

pub returns : goal.returns
returns c =
    let p = c.args.board.now in
    IfOk-weaker c.boards_in.result (λ _. c.boards_in.new.boards.items ≡ map (with_cells p) (by_pairs c.args.player p))
    (λ _. c.boards_in.new.boards.items ≡ boards_after clobber c.args.player p)
    (λ _ e. e ∙ ap (map (with_cells p)) (pairs-are c.args.player p (wide p c.requires))) c.boards_in.ensures

use Rattle.std.proofs.Common.{refl, ap, map, ◌∙◌}
use Rattle.std.specs.List.{flat_map}
use Rattle.cg_moves.specs.Grid.{with_cells}
use Rattle.cg_moves.proofs.Carried.{ok_along}
use Rattle.cg_moves.proofs.Sorting.{all_like, in_their_order}
use Rattle.cg_strip.specs.Placing.{placements}
use Rattle.cg_strip.proofs.Changes.{rules_over}
use Rattle.cg_strip.proofs.moves.StripRules.moves.Goals as goal

pub boards_of-requires : goal.boards_of-requires
boards_of-requires c =
    rules_over c.args.self.now c.args.board.now c.rules.result.now c.rules.ensures.value c.rules.ensures.sound c.requires

pub risen-requires : goal.risen-requires
risen-requires c =
    all_like c.args.board.now _ c.in_ok-boards.boards.items c.in_ok-boards.boards.items refl c.in_ok-boards.ensures

pub returns : goal.returns
returns c =
    let each = placements c.args.player c.args.board.now.cells in
    let made = c.in_ok-boards.ensures
    ∙ ap (λ rules. map (with_cells c.args.board.now) (flat_map each rules)) c.rules.ensures.value in
    ok_along c.risen.result _ _
    (in_their_order c.args.board.now (flat_map each c.args.self.now.rules) c.in_ok-boards.boards.items c.in_ok-boards.boards.items
    refl made)
    c.risen.ensures

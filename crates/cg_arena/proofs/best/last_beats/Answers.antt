use Rattle.std.proofs.Common.{◌-◌, ◌<◌, length, rules, sym, ◌∙◌}
use Rattle.cg_form.specs.Side.{at_most}
use Rattle.cg_form.proofs.Sides.{side_turned}
use Rattle.cg_arena.specs.Arena.{game_of}
use Rattle.cg_arena.proofs.Results.{if_ok}
use Rattle.cg_arena.proofs.Slices.{index_of_item, item_is, slice_hit}
use Rattle.cg_arena.proofs.best.last_beats.Goals as goal

pub at_most-requires-clause-a : goal.at_most-requires-clause-a
at_most-requires-clause-a c =
    let l : length c.args.items.now - 1 < length c.args.items.now = search (rules, c.is_empty.ensures, c.if-is_empty.false) in
    index_of_item c.args.arena.now c.args.items.now (length c.args.items.now - 1) _ c.requires.items l
    (item_is c.args.items.now (length c.args.items.now - 1) _ c.index-items-items.is l)

pub returns-clause-order : goal.returns-clause-order
returns-clause-order c =
    let l : length c.args.items.now - 1 < length c.args.items.now = search (rules, c.is_empty.ensures, c.if-is_empty.false) in
    let last = c.index-items-items.result in
    let x = game_of c.args.arena.now c.args.x in
    if_ok c.at_most.result _ _ c.at_most.ensures.order
    (λ answer h yes. slice_hit c.args.arena.now (at_most c.args.left x) c.args.items.now (length c.args.items.now - 1) last l
    (item_is c.args.items.now (length c.args.items.now - 1) last c.index-items-items.is l)
    (sym (side_turned c.args.left (game_of c.args.arena.now last) x) ∙ sym h ∙ yes))

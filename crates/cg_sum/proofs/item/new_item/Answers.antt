-- The sum of two numbers, one that is known by its parts, or one from the options.
use Rattle.std.proofs.Common.{◌∙◌}
use Rattle.cg_canon.specs.Works.{work_state}
use Rattle.cg_sum.proofs.ItemSteps.{given_form, number_item}
use Rattle.cg_sum.proofs.Placed.{first_at, first_is, first_number, second_at, second_is, second_number, same_sum}
use Rattle.cg_sum.proofs.item.new_item.Goals as goal

pub number_at-requires-clause-game : goal.number_at-requires-clause-game
number_at-requires-clause-game g c = (first_at _ _ _ _ _ c.requires.1.1.1.0.placed _ _ c.index-f.ensures c.index-k.ensures).within

pub number_at-requires-clause-number : goal.number_at-requires-clause-number
number_at-requires-clause-number g c =
    first_number _ _ _ _ _ c.requires.1.1.1.0.placed _ _ c.index-f.ensures c.index-k.ensures c.if-f.true

pub number_at-requires-then-k-clause-game : goal.number_at-requires-then-k-clause-game
number_at-requires-then-k-clause-game g c =
    (second_at _ _ _ _ _ c.requires.1.1.1.0.placed _ _ c.index-f.ensures c.index-k.ensures).within

pub number_at-requires-then-k-clause-number : goal.number_at-requires-then-k-clause-number
number_at-requires-then-k-clause-number g c =
    second_number _ _ _ _ _ c.requires.1.1.1.0.placed _ _ c.index-f.ensures c.index-k.ensures c.if-k.true

pub returns-then-k : goal.returns-then-k
returns-then-k g c =
    let W = work_state g.S.CellStore.state in
    let placed = c.requires.1.1.1.0.placed in
    number_item (W c.args.work.now) (W c.make_number.new.self) _ _ _ c.requires.1.1.1.1 _ _ _ _
    (first_is _ _ _ _ _ placed _ _ c.index-f.ensures c.index-k.ensures _ c.number_at.ensures)
    (second_is _ _ _ _ _ placed _ _ c.index-f.ensures c.index-k.ensures _ c.number_at-then-k.ensures) _ _ _ c.ok.ensures.value
    c.add-sum.ensures c.make_number.ensures

pub sum_by_parts-requires-clause-a : goal.sum_by_parts-requires-clause-a
sum_by_parts-requires-clause-a g c =
    (first_at _ _ _ _ _ c.requires.1.1.1.0.placed _ _ c.index-f.ensures c.index-k.ensures).within

pub sum_by_parts-requires-clause-b : goal.sum_by_parts-requires-clause-b
sum_by_parts-requires-clause-b g c =
    (second_at _ _ _ _ _ c.requires.1.1.1.0.placed _ _ c.index-f.ensures c.index-k.ensures).within

pub returns-in-Some : goal.returns-in-Some
returns-in-Some g c =
    let W = work_state g.S.CellStore.state in
    given_form (W c.args.work.now) (W c.make_again.new.self) _ _ _ c.requires.1.1.1.1 _ _ 1 1 _
    (c.in-Some.ensures.is ∙ same_sum _ _ _ _ _ c.requires.1.1.1.0.placed _ _ c.index-f.ensures c.index-k.ensures) c.make_again.ensures.item

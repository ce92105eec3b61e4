-- The negatives of the positions, one after another.
use Rattle.std.proofs.Common.{arith, ap, refl, ◌∙◌, sym}
use Rattle.std.proofs.lemmas.List.{take_all}
use Rattle.cg_sum.specs.Lists.{minus_item, minus_items}
use Rattle.cg_sum.specs.Progress.{negative_at_place}
use Rattle.cg_sum.proofs.Loops.{forms_all, forms_handed, forms_memory, forms_none, forms_put, map_next, map_split}
use Rattle.cg_sum.proofs.Tables.{holds_none}
use Rattle.cg_canon.proofs.WalkPositions.{count, inside_walk, walk_later}
use Rattle.cg_sum.proofs.negation.add_negatives.Goals as goal

pub loop-place-init : goal.loop-place-init
loop-place-init g c = forms_none (holds_none (negative_at_place g.games) _ _ c.requires.1.1.1.1) (omega arith)

pub negative_item-requires : goal.negative_item-requires
negative_item-requires g c κs within =
    let so_far = c.loop-place.invariant in
    let walk = walk_later _ _ so_far.begins _ _ c.requires.1.1.1.0 in
    let inside = inside_walk _ _ _ c.requires.1.1.1.0 _ _ c.len-place-end.ensures c.loop-place-test.true in
    (within.0, (within.1.0, (within.1.1, (walk, (inside, rw c.as_slice.ensures.value so_far.holds)))))

pub returns-in_err-negative : goal.returns-in_err-negative
returns-in_err-negative g c =
    let l = inside_walk _ _ _ c.requires.1.1.1.0 _ _ c.len-place-end.ensures c.loop-place-test.true in
    let one = c.in_err-negative.ensures in
    forms_handed c.loop-place.invariant _ one.begins one.made (omega (arith, c.loop-place.invariant.spare, one.spare)) c.from_residual.ensures.1
    (map_split _ _ l minus_item)

pub returns-in_err-push : goal.returns-in_err-push
returns-in_err-push g c =
    let one = c.negative_item.ensures in
    forms_memory c.loop-place.invariant one.begins one.made.keeps (omega (arith, c.loop-place.invariant.spare, one.spare))
    c.from_residual-in_err-push.ensures.1

pub loop-place-preserved : goal.loop-place-preserved
loop-place-preserved g c =
    let l = inside_walk _ _ _ c.requires.1.1.1.0 _ _ c.len-place-end.ensures c.loop-place-test.true in
    forms_put c.loop-place.invariant c.loop-place.invariant.spare c.in_ok-negative.ensures refl c.in_ok-push.ensures.items
    (map_next _ _ l minus_item) refl

pub returns : goal.returns
returns g c =
    let n = c.len-place-end.ensures ∙ c.args.walk.now.positions.ok.0 ∙ count _ _ _ c.requires.1.1.1.0 in
    let l = c.loop-place-test.false in
    let u = c.loop-place.auto.place-end in
    forms_all c.loop-place.invariant (sym (ap minus_items (take_all c.loop-place.place g.games (omega (arith, n, l))))) (omega (arith, n, l, u))

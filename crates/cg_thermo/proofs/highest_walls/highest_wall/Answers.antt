-- The first side, and then the greater of each further one and the greatest so far.
use Rattle.std.proofs.Common.{◌∙◌, ◌+◌, arith, ap, get_or}
use Rattle.std.proofs.lemmas.List.{get_or_default}
use Rattle.std.specs.Int.{int_max}
use Rattle.cg_walls.specs.Rises.{value_at}
use Rattle.cg_thermo.proofs.HighestSteps.{all_read, read-behind, highest_wall-all, highest_wall-first, highest_wall-more}
use Rattle.cg_thermo.proofs.highest_walls.highest_wall.Goals as goal

pub loop-place-init : goal.loop-place-init
loop-place-init c = (
  c.in_ok-highest_wall.ensures.wall,
  λ games h. highest_wall-first games c.args.right c.args.places.now c.in-Some.others.now c.in-Some.first.now c.in_ok-highest_wall.highest_wall
      c.in-Some.ensures.cases.0 (λ d t. c.in_ok-highest_wall.ensures.value t ∙ c.side_of.ensures.value games h d t),
)

pub side_of-requires-in-loop-place-clause-place : goal.side_of-requires-in-loop-place-clause-place
side_of-requires-in-loop-place-clause-place c =
    let n = c.in-Some.ensures.cases.1 in
    all_read c.args.places.now (c.loop-place.place-index + 1) _ _ c.requires.places
    (let t = c.loop-place-test.true in omega arith)
    (read-behind c.args.places.now c.in-Some.others.now c.in-Some.first.now c.loop-place.place-index _ c.in-Some.ensures.cases.0
    (get_or_default c.in-Some.others.now c.loop-place.place-index 0 (get_or c.in-Some.others.now c.loop-place.place-index 0) c.loop-place-test.true))

pub loop-place-preserved : goal.loop-place-preserved
loop-place-preserved c =
    let n = c.in-Some.ensures.cases.1 in (
      c.in_ok-highest_wall-2.ensures.wall,
      λ games h. highest_wall-more games c.args.right c.args.places.now (c.loop-place.place-index + 1)
          (get_or c.in-Some.others.now c.loop-place.place-index 0) c.loop-place.highest_wall
          c.in_ok-highest_wall-2.highest_wall (omega arith) (let t = c.loop-place-test.true in omega arith)
          (read-behind c.args.places.now c.in-Some.others.now c.in-Some.first.now c.loop-place.place-index _
          c.in-Some.ensures.cases.0 (get_or_default c.in-Some.others.now c.loop-place.place-index 0
          (get_or c.in-Some.others.now c.loop-place.place-index 0) c.loop-place-test.true))
          (λ d t. c.in_ok-highest_wall-2.ensures.value t
          ∙ ap (int_max (value_at c.loop-place.highest_wall t)) (c.side_of-in-loop-place.ensures.value games h d t))
          (c.loop-place.invariant.1 games h),
    )

pub returns-clause-highest_wall : goal.returns-clause-highest_wall
returns-clause-highest_wall c = λ games h.
    let n = c.in-Some.ensures.cases.1 in
    highest_wall-all games c.args.right c.args.places.now (c.loop-place.place-index + 1) c.loop-place.highest_wall
    (let t = c.loop-place-test.false in omega arith) (c.loop-place.invariant.1 games h)

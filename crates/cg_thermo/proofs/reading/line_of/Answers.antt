use mir.Syntax.{w128}
use mir.Val.{to_z, of_z}
use Rattle.std.proofs.Common.{◌≡◌, ap, ◌∙◌, ◌-ℤ◌}
use Rattle.cg_dyadic.specs.Wide.{places}
use Rattle.cg_walls.specs.Lines.{further}
use Rattle.cg_thermo.proofs.Lining.{diff_word, line_at, none_line, small_along, small_word, some_line, wall-ends, wall-last, wall-next}
use Rattle.cg_thermo.proofs.reading.line_of.Goals as goal

pub loop-corner-preserved : goal.loop-corner-preserved
loop-corner-preserved c = record {
  line = wall-next c.args.items.now c.loop-corner.corner-index _ _ _ _ _ _ c.corner-item.result
      c.loop-corner-test.true c.corner-item.is (small_word c.units-next.result c.units-next.ensures.small ∙ c.units-next.ensures.value)
      (small_word c.units-at.result c.units-at.ensures.small ∙ c.units-at.ensures.value) c.if-at-time.false c.loop-corner.invariant.line;
  value_small = small_along _ c.units-next.result (small_word c.units-next.result c.units-next.ensures.small) c.units-next.ensures.small;
  from_small = small_along _ c.units-at.result (small_word c.units-at.result c.units-at.ensures.small) c.units-at.ensures.small;
}

-- what is moved to is on the line
on_line : (c : goal.After-toward) → further (to_z w128 c.loop-corner.value-bits) (to_z w128 (of_z w128 c.units-next.result))
    (to_z w128 (of_z w128 (to_z w128 (of_z w128 c.units-time.result) -ℤ to_z w128 c.loop-corner.from-bits)))
    ≡ line_at places c.args.items.now (to_z w128 (of_z w128 c.units-time.result))
on_line c =
    ap (λ n. further (to_z w128 c.loop-corner.value-bits) (to_z w128 (of_z w128 c.units-next.result)) n)
    (diff_word (to_z w128 (of_z w128 c.units-time.result)) (to_z w128 c.loop-corner.from-bits)
    (small_along _ c.units-time.result (small_word c.units-time.result c.units-time.ensures.small) c.units-time.ensures.small)
    c.loop-corner.invariant.from_small)
    ∙ wall-ends c.args.items.now c.loop-corner.corner-index (to_z w128 c.loop-corner.value-bits) (to_z w128 c.loop-corner.from-bits)
    (to_z w128 (of_z w128 c.units-time.result)) (to_z w128 (of_z w128 c.units-next.result)) (to_z w128 (of_z w128 c.units-at.result)) _ c.corner-item.result
    c.loop-corner-test.true c.corner-item.is (small_word c.units-next.result c.units-next.ensures.small ∙ c.units-next.ensures.value)
    (small_word c.units-at.result c.units-at.ensures.small ∙ c.units-at.ensures.value) c.if-at-time.true c.loop-corner.invariant.line

pub returns-then-at-time-clause-some : goal.returns-then-at-time-clause-some
returns-then-at-time-clause-some c = some_line c.toward.result c.args.items.now _ _ c.requires.some c.requires.rise
    (on_line c ∙ ap (line_at places c.args.items.now) (small_word c.units-time.result c.units-time.ensures.small ∙ c.units-time.ensures.value))
    c.toward.ensures.some

pub returns-then-at-time-clause-none : goal.returns-then-at-time-clause-none
returns-then-at-time-clause-none c = none_line c.toward.result c.args.items.now _ _ c.requires.some c.requires.rise
    (on_line c ∙ ap (line_at places c.args.items.now) (small_word c.units-time.result c.units-time.ensures.small ∙ c.units-time.ensures.value))
    c.toward.ensures.none

-- behind the last corner
ended : (c : goal.After-bounded) → to_z w128 c.loop-corner.value-bits ≡ line_at places c.args.items.now (to_z w128 (of_z w128 c.units-time.result))
ended c = wall-last c.args.items.now c.loop-corner.corner-index _ _ _ _ c.loop-corner-test.false c.loop-corner.invariant.line

pub returns-clause-some : goal.returns-clause-some
returns-clause-some c = some_line c.bounded.result c.args.items.now _ _ c.requires.some c.requires.rise
    (ended c ∙ ap (line_at places c.args.items.now) (small_word c.units-time.result c.units-time.ensures.small ∙ c.units-time.ensures.value))
    c.bounded.ensures.some

pub returns-clause-none : goal.returns-clause-none
returns-clause-none c = none_line c.bounded.result c.args.items.now _ _ c.requires.some c.requires.rise
    (ended c ∙ ap (line_at places c.args.items.now) (small_word c.units-time.result c.units-time.ensures.small ∙ c.units-time.ensures.value))
    c.bounded.ensures.none

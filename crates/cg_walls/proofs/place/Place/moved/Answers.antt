use Rattle.std.proofs.lemmas.Int.{to_z-of_z}
use mir.Syntax.{w128}
use Rattle.std.proofs.Common.{sym, ◌∙◌, arith, ◌≡◌}
use Rattle.cg_walls.specs.Places.{next_of}
use Rattle.cg_walls.proofs.Walking.{at-later, at-turn, at-within}
use Rattle.cg_walls.proofs.place.Place.moved.Goals as goal
use Rattle.cg_walls.proofs.place.Place.moved.Goals.{else-next-to-via-then-next-to+else-to-lt-END, else-next-to-via-else-next-to}

pub climbed-value-requires-clause-within : goal.climbed-value-requires-clause-within
climbed-value-requires-clause-within c = at-within c.args.rise.now c.args.now c.args.self.now c.requires.wall c.requires.at

pub returns-then-to-lt-END : goal.returns-then-to-lt-END
returns-then-to-lt-END c =
    let e : next_of c.args.rise.now c.args.self.now ≡ c.args.to = sym c.next.ensures ∙ c.if-next-to.true in
    at-turn c.args.rise.now c.args.now c.args.to c.args.self.now c.of.result c.requires.at c.requires.later e c.if-to-lt-END.true
    (c.of.ensures.value ∙ to_z-of_z w128 c.climbed-value.result (record { sfits = c.climbed-value.type_inv }) ∙ c.climbed-value.ensures) c.of.ensures.up
    c.of.ensures.passed

pub returns-else-next-to : goal.returns-else-next-to
returns-else-next-to c =
    at-later c.args.rise.now c.args.now c.args.to c.args.self.now c.of-else-next-to.result c.requires.at c.requires.later c.requires.no_turn
    (λ e lt. elim c.else-next-to.branch [
      | else-next-to-via-then-next-to+else-to-lt-END w ↦ absurd (let n = w.if-to-lt-END.false in omega arith)
      | else-next-to-via-else-next-to w ↦ w.if-next-to.false (c.next.ensures ∙ e)
    ])
    (c.of-else-next-to.ensures.value ∙ to_z-of_z w128 c.climbed-value.result (record { sfits = c.climbed-value.type_inv }) ∙ c.climbed-value.ensures)
    c.of-else-next-to.ensures.up c.of-else-next-to.ensures.passed

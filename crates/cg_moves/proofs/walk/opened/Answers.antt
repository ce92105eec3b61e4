use Rattle.std.proofs.Common.{◌+◌, refl, arith}
use Rattle.cg_moves.specs.declared.walk.Open.{Open}
use Rattle.cg_moves.proofs.Visits.{next-of, opened-inside, opened-visits}
use Rattle.cg_moves.proofs.walk.opened.Goals as goal

pub overflow_add-result : goal.overflow_add-result
overflow_add-result g c =
    let s = c.args.linked.now in
    let i = (next-of g.walk s c.requires.0 c.args.number c.requires.1 c.index-next.result.now c.index-next.ensures).inside in
    omega (arith, i, s.numbers.ok.0)

pub returns-clause-inside : goal.returns-clause-inside
returns-clause-inside g c =
    let next = c.index-next.result.now in
    let o : Open = record { number = c.args.number; next = next.first_place; end = next.first_place + next.parts } in
    opened-inside g.walk c.args.linked.now c.requires.0 c.args.number c.requires.1 next c.index-next.ensures o refl refl refl

pub returns-clause-visits : goal.returns-clause-visits
returns-clause-visits g c =
    let next = c.index-next.result.now in
    let o : Open = record { number = c.args.number; next = next.first_place; end = next.first_place + next.parts } in
    opened-visits g.walk c.args.linked.now c.requires.0 c.args.number c.requires.1 next c.index-next.ensures o refl refl refl

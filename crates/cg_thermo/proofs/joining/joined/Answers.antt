use Rattle.std.proofs.Common.{sym, ◌∙◌}
use Rattle.cg_thermo.specs.Joins.{Meets}
use Rattle.cg_thermo.proofs.Drawing.{gap-above, gap-swap, meets-soon, turned-small}
use Rattle.cg_thermo.proofs.joining.joined.Goals as goal

pub turned-requires-clause-end : goal.turned-requires-clause-end
turned-requires-clause-end c =
    let m : Meets c.args.p.now c.args.q.now c.in-Some.end = record { met = c.in-Some.ensures.met; first = c.in-Some.ensures.first } in
    meets-soon c.args.p.now c.args.q.now c.in-Some.end c.requires.p c.requires.q m

pub turned-requires-clause-small : goal.turned-requires-clause-small
turned-requires-clause-small c = turned-small c.args.p.now c.args.q.now c.in-Some.end c.requires.q c.in-Some.ensures.first c.in-Some.ensures.met

pub turned-requires-2-clause-end : goal.turned-requires-2-clause-end
turned-requires-2-clause-end c =
    let m : Meets c.args.p.now c.args.q.now c.in-Some.end = record { met = c.in-Some.ensures.met; first = c.in-Some.ensures.first } in
    meets-soon c.args.p.now c.args.q.now c.in-Some.end c.requires.p c.requires.q m

pub turned-requires-2-clause-small : goal.turned-requires-2-clause-small
turned-requires-2-clause-small c =
    let p = c.args.p.now in let q = c.args.q.now in let e = c.in-Some.end in
    turned-small q p e c.requires.p (λ u h. gap-above p q u (c.in-Some.ensures.first u h))
    (sym (gap-swap p q e) ∙ c.in-Some.ensures.met)

pub returns-clause-joined : goal.returns-clause-joined
returns-clause-joined c =
    let m : Meets c.args.p.now c.args.q.now c.in-Some.end = record { met = c.in-Some.ensures.met; first = c.in-Some.ensures.first } in
    record {
      meets = m;
      left_wall = c.in_ok-left.ensures.wall;
      right_wall = c.in_ok-right.ensures.wall;
      left = c.in_ok-left.ensures.value;
      right = c.in_ok-right.ensures.value;
      soon = meets-soon c.args.p.now c.args.q.now c.in-Some.end c.requires.p c.requires.q m;
    }

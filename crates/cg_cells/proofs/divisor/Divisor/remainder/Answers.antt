use Rattle.std.proofs.Common.{◌*◌, ◌+◌, ◌<◌, ◌≤◌, sym, subst, arith}
use Rattle.cg_cells.proofs.Divisors.{is_left, is_left_after}
use Rattle.cg_cells.proofs.divisor.Divisor.remainder.Goals as goal

pub returns-then-rest-self-clause-value : goal.returns-then-rest-self-clause-value
returns-then-rest-self-clause-value c =
    let low = subst (λ d. c.times_in.result * d ≤ c.args.number) (sym c.self.view_is) c.times_in.ensures.low in
    rw (← c.self.view_is) (is_left c.args.number c.self.inside.number c.times_in.result _ (omega arith) c.if-rest-self.true)

pub returns-else-rest-self-clause-value : goal.returns-else-rest-self-clause-value
returns-else-rest-self-clause-value c =
    let high = subst (λ d. c.args.number < c.times_in.result * d + d + d) (sym c.self.view_is) c.times_in.ensures.high in
    let more = c.if-rest-self.false in
    rw (← c.self.view_is) (is_left_after c.args.number c.self.inside.number c.times_in.result _ (omega arith) (omega arith))

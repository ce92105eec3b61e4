use Rattle.std.proofs.Common.{◌*◌, ◌/◌, ◌^◌, ◌+◌, ◌<◌, ◌≤◌, subst}
use Rattle.cg_cells.proofs.Divisors.{divides}
use Rattle.cg_cells.proofs.divisor.Divisor.times_in.Goals as goal

pub returns-clause-low : goal.returns-clause-low
returns-clause-low c = subst (λ d. c.args.number * c.self.inside.reciprocal / 2 ^ 64 * d ≤ c.args.number) c.self.view_is (divides _ _ _ c.ranges.number.fits c.self.invariant.0 c.self.invariant.1).low

pub returns-clause-high : goal.returns-clause-high
returns-clause-high c = subst (λ d. c.args.number < c.args.number * c.self.inside.reciprocal / 2 ^ 64 * d + d + d) c.self.view_is (divides _ _ _ c.ranges.number.fits c.self.invariant.0 c.self.invariant.1).high

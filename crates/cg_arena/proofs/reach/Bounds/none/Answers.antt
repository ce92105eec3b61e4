use Rattle.std.proofs.Common.{arith}
use Rattle.std.proofs.lemmas.Int.{ints}
use Rattle.cg_arena.proofs.reach.Bounds.none.Goals as goal

pub returns : goal.returns
returns c = record {
  each = λ g m. absurd m;
  least_low = omega (arith, ints);
  least_high = omega (arith, ints);
  greatest_low = omega (arith, ints);
  greatest_high = omega (arith, ints);
}

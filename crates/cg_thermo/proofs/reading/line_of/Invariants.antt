use Rattle.std.proofs.Common.{◌≡◌, ◌<◌, ◌^◌, drop, unsigned_abs}
use Rattle.cg_thermo.proofs.Lining.{line_at, line_from}
use Rattle.cg_dyadic.specs.Wide.{places}
use Rattle.cg_thermo.proofs.reading.line_of.Given as goal

abbrev pub invariant-loop-corner : goal.invariant-loop-corner
invariant-loop-corner l = record {
  line : line_from places l.value l.from (drop l.corner-index l.items) l.time ≡ line_at places l.items l.time;
  value_small : unsigned_abs l.value < 2 ^ 126;
  from_small : unsigned_abs l.from < 2 ^ 126;
}

use Rattle.std.proofs.Common.{arith}
use Rattle.std.specs.Prelude.{slice_index}
use Rattle.cg_cells.proofs.Indexes.{ends}
use Rattle.cg_cells.proofs.index.probe.Goals as goal

pub unreachable-requires : goal.unreachable-requires
unreachable-requires g c = ends _ c.home-home.result (slice_index c.args.index.now) c.home-home.ensures.below c.requires.room (λ k lt. (c.loop-steps.invariant k (omega arith)).0)

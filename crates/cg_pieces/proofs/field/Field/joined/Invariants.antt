use Rattle.std.proofs.Common.{◌-◌}
use Rattle.cg_pieces.specs.Words.{IsGrowing, IsNextSet}
use Rattle.cg_pieces.proofs.field.Field.joined.Given as goal

abbrev pub invariant-loop-more : goal.invariant-loop-more
invariant-loop-more l = record {
  growing : IsGrowing l.self l.cell l.set;
  next : IsNextSet l.self l.set l.more;
}

abbrev pub decreases-loop-more : goal.decreases-loop-more
decreases-loop-more l = l.self.cells - l.set

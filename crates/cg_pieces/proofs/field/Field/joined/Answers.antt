use Rattle.std.proofs.Common.{inl, inr}
use Rattle.cg_pieces.proofs.GrownSets.{growing-more, growing-start, grown, grows-down}
use Rattle.cg_pieces.proofs.field.Field.joined.Goals as goal

pub loop-more-init : goal.loop-more-init
loop-more-init c = record {
  growing = growing-start c.args.self c.args.cell c.with_bit-set.result c.with_bit-set.ensures c.requires.inside;
  next = c.with_next-more.ensures;
}

pub loop-more-smaller : goal.loop-more-smaller
loop-more-smaller c =
    grows-down c.loop-more.set c.loop-more.more c.args.self.cells c.loop-more.invariant.next.grows c.loop-more-test.true
    c.loop-more.invariant.next.within

pub loop-more-preserved : goal.loop-more-preserved
loop-more-preserved c = record {
  growing = growing-more c.args.self c.args.cell c.loop-more.set c.loop-more.more c.loop-more.invariant.growing c.loop-more.invariant.next;
  next = c.with_next-more-in-loop-more.ensures;
}

pub returns-after-loop-more : goal.returns-after-loop-more
returns-after-loop-more c =
    grown c.args.self c.args.cell c.loop-more.set c.loop-more.more c.loop-more.invariant.growing c.loop-more.invariant.next
    (inl c.loop-more-test.false)

pub returns-else-more-self : goal.returns-else-more-self
returns-else-more-self c =
    grown c.args.self c.args.cell c.loop-more.set c.loop-more.more c.loop-more.invariant.growing c.loop-more.invariant.next
    (inr c.if-more-self.false)

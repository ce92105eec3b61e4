use Rattle.cg_canon.proofs.PairSums.{pair_found}
use Rattle.cg_canon.proofs.work.Work.kept_sum.Goals as goal

pub returns : goal.returns
returns g c =
    let b = c.self.inside.cache.memo.interner in
    rw (← c.self.view_is) (pair_found b.arena c.args.a c.args.b _ _ c.in_order-low.ensures b.pairs c.find.result c.self.invariant.1.interner.pairs
    c.find.ensures)

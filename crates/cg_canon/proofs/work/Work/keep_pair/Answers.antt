use Rattle.std.proofs.Common.{ℕ, refl, subst, sym}
use Rattle.cg_arena.specs.Arena.{IsIndex}
use Rattle.cg_canon.specs.Works.{WorkOf}
use Rattle.cg_canon.proofs.InternerSteps.{holds_pairs, sums_more}
use Rattle.cg_canon.proofs.Holding.{cache_interner}
use Rattle.cg_canon.proofs.PairSums.{pair_kept}
use Rattle.cg_canon.proofs.work.Work.keep_pair.Goals as goal

pub invariant_of-self : goal.invariant_of-self
invariant_of-self g c =
    let s = g.S.CellStore.state c.self.inside.store.now in
    let h = c.self.inside.cache in
    let b = h.memo.interner in
    let P : ℕ → WorkOf _ → Type 0 = λ i w. IsIndex w.arena i in (
      c.self.invariant.0,
      cache_interner s h (record h.memo { interner = record b { pairs = c.keep.new.self } }) c.self.invariant.1
          (holds_pairs s b c.keep.new.self c.self.invariant.1.interner (sums_more b.arena b.pairs c.keep.new.self _ _ c.args.sum c.keep.ensures
          (pair_kept b.arena c.args.a c.args.b _ _ c.in_order-low.ensures c.args.sum (subst (P c.args.a) (sym c.self.view_is) c.requires.a)
          (subst (P c.args.b) (sym c.self.view_is) c.requires.b) (rw (← c.self.view_is) at c.requires.sum))
          c.self.invariant.1.interner.pairs)) refl,
    )

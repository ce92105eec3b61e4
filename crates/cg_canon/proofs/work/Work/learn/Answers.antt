use Rattle.std.proofs.Common.{refl}
use Rattle.cg_canon.proofs.InternerSteps.{holds_known}
use Rattle.cg_canon.proofs.Holding.{cache_interner}
use Rattle.cg_canon.proofs.Recognizing.{recognized_canonical}
use Rattle.cg_canon.proofs.work.Work.learn.Goals as goal

pub invariant_of-self : goal.invariant_of-self
invariant_of-self g c =
    let s = g.S.CellStore.state c.self.inside.store.now in
    let h = c.self.inside.cache in
    let b = h.memo.interner in
    let known = c.self.invariant.1.interner.recognized in
    let game = rw (← c.self.view_is) at c.requires.game in
    let equal = rw (← c.self.view_is) at c.requires.equal in (
      c.self.invariant.0,
      cache_interner s h (record h.memo { interner = record b { recognized = c.keep.new.self } }) c.self.invariant.1
          (holds_known s b c.keep.new.self c.self.invariant.1.interner (c.keep.ensures b.arena
          (record { within = game; parts = record { canonical = recognized_canonical b.arena b.recognized c.args.game known game; equal = equal } })
          known)) refl,
    )

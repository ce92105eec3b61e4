use Rattle.cg_canon.proofs.FormTables.{forms_kept}
use Rattle.cg_canon.proofs.Holding.{cache_forms}
use Rattle.cg_canon.proofs.work.Work.keep_made.Goals as goal

pub invariant_of-self : goal.invariant_of-self
invariant_of-self g c =
    let s = g.S.CellStore.state c.self.inside.store.now in (
      c.self.invariant.0,
      cache_forms s c.self.inside.cache c.keep.new.self c.self.invariant.1
          (forms_kept s c.self.inside.cache.made c.keep.new.self c.args.lefts.now c.args.rights.now c.args.form c.keep.ensures.kept
          (rw (← c.self.view_is) at c.requires) c.self.invariant.1.forms),
    )

use Rattle.std.proofs.lemmas.Option.{IfSome_then}
use Rattle.cg_canon.proofs.Recognizing.{known_found}
use Rattle.cg_canon.proofs.work.Work.parts_of.Goals as goal

pub returns : goal.returns
returns g c =
    let b = c.self.inside.cache.memo.interner in
    rw (← c.self.view_is) (IfSome_then c.parts_of.result c.parts_of.ensures
    (λ v k. known_found b.arena b.recognized c.args.game v.now c.self.invariant.1.interner.recognized k))

use Rattle.std.proofs.lemmas.Option.{IfSome_then}
use Rattle.cg_canon.proofs.Recognizing.{known_found}
use Rattle.cg_canon.proofs.work.Work.game_with.Goals as goal

pub returns : goal.returns
returns g c =
    let b = c.self.inside.cache.memo.interner in
    rw (← c.self.view_is) (IfSome_then c.game_with.result c.game_with.ensures
    (λ i k. known_found b.arena b.recognized i c.args.parts.now c.self.invariant.1.interner.recognized k))

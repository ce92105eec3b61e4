use Rattle.cg_cert.proofs.Staging.{moves_made}
use Rattle.cg_cert.proofs.stage.moves.Goals as goal

pub returns : goal.returns
returns g c =
    moves_made _ c.args.stage.now c.in_ok-rights.rights.items c.in_ok-lefts.lefts.items _ _ c.new.result.items _
    (λ v. v.items) c.with_stages-2.result c.requires c.in_ok-rights.ensures c.in_ok-lefts.ensures c.new.ensures.items
    c.deref.ensures.value c.deref-2.ensures.value c.in_ok-all.ensures c.with_stages-2.ensures

use Rattle.cg_cert.proofs.Listing.{listed, numbered}
use Rattle.cg_cert.proofs.position.options.Goals as goal

pub returns-in-Number : goal.returns-in-Number
returns-in-Number g c =
    numbered c.args.work.now.arena c.args.left c.in-Number.x _ (λ v. v.items) c.options_of_number.result c.in-Number.ensures
    c.options_of_number.ensures

pub returns-in-Options : goal.returns-in-Options
returns-in-Options g c =
    listed c.args.work.now.arena c.args.left _ c.in-Options.lefts.now c.in-Options.rights.now c.own.result.now (λ v. v.items)
    c.positions_at.result c.in-Options.ensures c.own.ensures c.positions_at.ensures

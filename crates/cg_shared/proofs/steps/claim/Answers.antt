use Rattle.std.proofs.Common.{◌+◌}
use Rattle.cg_shared.proofs.Allowed.{claim_allowed}
use Rattle.cg_shared.proofs.steps.claim.Goals as goal

pub compare_exchange-requires : goal.compare_exchange-requires
compare_exchange-requires g c =
    let A = c.requires.at in
    (c.requires.table, A.inside, claim_allowed g.F.Facts.meaning g.met.F.Facts.lawful c.args.shared.now.key _ _ _ A.live c.args.key c.args.steps A.search c.args.cell A.place)

pub returns-clause-made : goal.returns-clause-made
returns-clause-made g c = (c.compare_exchange.ensures.2.1 c.args.cell (λ i. 1 + c.args.cell)).0

pub returns-clause-hit : goal.returns-clause-hit
returns-clause-hit g c = (c.compare_exchange.ensures.2.1 c.args.cell (λ i. 1 + c.args.cell)).1

pub returns-clause-miss : goal.returns-clause-miss
returns-clause-miss g c = (c.compare_exchange.ensures.2.1 c.args.cell (λ i. 1 + c.args.cell)).2

use Rattle.std.proofs.Common.{◌+◌}
use Rattle.cg_shared.proofs.Allowed.{probe_allowed}
use Rattle.cg_shared.proofs.steps.probe.Goals as goal

pub load-requires : goal.load-requires
load-requires g c =
    let A = c.requires.at in
    (c.requires.table, A.inside, probe_allowed g.F.Facts.meaning g.met.F.Facts.lawful c.args.shared.now.key _ _ _ A.live c.args.key c.args.steps A.search c.args.cell _ A.place c.requires.sought)

pub returns-clause-made : goal.returns-clause-made
returns-clause-made g c = rw c.requires.sought ((c.load.ensures.2.1 c.args.cell (λ i. 1 + c.args.cell)).0)

pub returns-clause-empty : goal.returns-clause-empty
returns-clause-empty g c = rw c.requires.sought ((c.load.ensures.2.1 c.args.cell (λ i. 1 + c.args.cell)).1)

pub returns-clause-hit : goal.returns-clause-hit
returns-clause-hit g c = rw c.requires.sought ((c.load.ensures.2.1 c.args.cell (λ i. 1 + c.args.cell)).2)

pub returns-clause-miss : goal.returns-clause-miss
returns-clause-miss g c = rw c.requires.sought ((c.load.ensures.2.1 c.args.cell (λ i. 1 + c.args.cell)).3)

use Rattle.cg_canon.proofs.Charging.{one_passes, too_dear, too_deep}
use Rattle.cg_canon.proofs.meter.Meter.charge_item.Goals as goal

pub returns-then-charge-gt-DEEPEST-clause-refused : goal.returns-then-charge-gt-DEEPEST-clause-refused
returns-then-charge-gt-DEEPEST-clause-refused c = λ form own.
    too_deep c.args.self.now.share c.args.self.now.spent c.args.extra form c.args.charge own c.if-charge-gt-DEEPEST.true

pub returns-then-total-self-clause-refused : goal.returns-then-total-self-clause-refused
returns-then-total-self-clause-refused c = λ form own.
    too_dear c.args.self.now.share c.args.self.now.spent c.args.extra form c.args.charge own c.if-charge-gt-DEEPEST.false
    c.if-total-self.true

pub returns-clause-charged : goal.returns-clause-charged
returns-clause-charged c = λ form own.
    one_passes c.args.self.now.share c.args.self.now.spent c.args.extra form c.args.charge own c.if-charge-gt-DEEPEST.false
    c.if-total-self.false

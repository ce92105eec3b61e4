use Rattle.cg_arena.proofs.KeyLaws.{less_low, less_high, not_less_low, not_less_high}
use Rattle.cg_arena.proofs.summarizing.reaches_past.Goals as goal

pub returns-then-left-clause-past : goal.returns-then-left-clause-past
returns-then-left-clause-past c = λ g h p q t. less_low c.args.left c.args.b.now c.args.a.now h g c.if-left.true q p t

pub returns-then-left-clause-not_past : goal.returns-then-left-clause-not_past
returns-then-left-clause-not_past c = λ g h p q t. not_less_low c.args.left c.args.a.now c.args.b.now g h c.if-left.true p q t

pub returns-clause-past : goal.returns-clause-past
returns-clause-past c = λ g h p q t. less_high c.args.left c.args.b.now c.args.a.now h g c.if-left.false q p t

pub returns-clause-not_past : goal.returns-clause-not_past
returns-clause-not_past c = λ g h p q t. not_less_high c.args.left c.args.a.now c.args.b.now g h c.if-left.false p q t

use Rattle.cg_arena.proofs.KeyLaws.{decided_between, decided_high, decided_low}
use Rattle.cg_arena.proofs.decided.decided_by_cuts.Goals as goal

pub returns-then-a-b : goal.returns-then-a-b
returns-then-a-b c = λ g h p q. decided_low c.args.a.now c.args.b.now g h p q c.if-a-b.true

pub returns-then-a-b-2 : goal.returns-then-a-b-2
returns-then-a-b-2 c = λ g h p q. decided_high c.args.a.now c.args.b.now g h p q c.if-a-b-2.true

pub returns-then-a-b-3 : goal.returns-then-a-b-3
returns-then-a-b-3 c = λ g h p q. decided_between c.args.a.now c.args.b.now g h p q c.if-a-b-3.true

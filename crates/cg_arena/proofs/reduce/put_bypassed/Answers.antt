use Rattle.cg_arena.proofs.Reducing.{formed, no_verdicts}
use Rattle.cg_arena.proofs.reduce.put_bypassed.Goals as goal

pub put_replaced-requires-clause-known : goal.put_replaced-requires-clause-known
put_replaced-requires-clause-known c = record {
  unreduced = c.requires.unreduced;
  verdicts = no_verdicts c.args.arena.now c.args.unreduced.now c.new-verdicts.result c.new-verdicts.ensures;
  right = c.requires.right;
}

pub returns-clause-form : goal.returns-clause-form
returns-clause-form c =
    formed c.args.arena.now c.args.unreduced.now c.put_replaced.new.list.items c.put_replaced-2.new.list.items c.requires.unreduced.no_number
    c.in_ok-put_replaced.ensures.replaces c.in_ok-put_replaced-2.ensures.replaces

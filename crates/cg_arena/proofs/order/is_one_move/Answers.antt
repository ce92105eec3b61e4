use Rattle.std.proofs.Common.{sym, ◌∙◌}
use Rattle.cg_arena.proofs.OneMove.{past_left, past_right}
use Rattle.cg_arena.proofs.order.is_one_move.Goals as goal

pub returns-then-contains : goal.returns-then-contains
returns-then-contains c = λ _.
    let found = sym c.contains.ensures.value ∙ c.if-contains.true in
    past_left c.args.arena.now _ c.in-Options.lefts.now c.in-Options.field-1.now c.args.b c.in-Options.ensures.read.2 found

pub returns-in-Options-read : goal.returns-in-Options-read
returns-in-Options-read c = λ yes.
    let found = sym c.contains-in-Options-read.ensures.value ∙ yes in
    let rights = c.in-Options-read.rights.now in
    past_right c.args.arena.now _ c.in-Options-read.field-0.now rights c.args.a c.in-Options-read.ensures.read.2 found

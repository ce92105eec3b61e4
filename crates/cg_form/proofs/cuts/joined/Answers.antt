use Rattle.cg_form.proofs.Cut.{joined_first, joined_second}
use Rattle.cg_form.proofs.cuts.joined.Goals as goal

pub returns-then-covered : goal.returns-then-covered
returns-then-covered c = joined_first c.args.left c.args.cut.now c.in-Some.c c.args.next.now c.covers-covered.result c.in-Some.is c.covers-covered.ensures
    c.if-covered.true

pub returns-else-covered : goal.returns-else-covered
returns-else-covered c = joined_second c.args.left c.args.cut.now c.in-Some.c c.args.next.now c.covers-covered.result c.in-Some.is c.covers-covered.ensures
    c.if-covered.false

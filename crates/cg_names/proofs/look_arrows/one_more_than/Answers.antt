use Rattle.std.proofs.Common.{arith, refl, ◌+◌}
use Rattle.cg_names.proofs.Looks.{more-found, more-none}
use Rattle.cg_names.proofs.NameRule.{some_is}
use Rattle.cg_names.proofs.look_arrows.one_more_than.Goals as goal

pub returns-else-is_same-clause-more : goal.returns-else-is_same-clause-more
returns-else-is_same-clause-more c g i f =
    let found = c.args.found.now in
    more-none c.args.x found.base (c.is_same.ensures.other c.if-is_same.false) c.args.down found.starred found.count g i f

pub returns-then-is_same-clause-more : goal.returns-then-is_same-clause-more
returns-then-is_same-clause-more c g i f =
    let found = c.args.found.now in
    record {
      proper = some_is (found.count + 1) (omega arith);
      form = more-found c.args.x found.base (c.is_same.ensures.same c.if-is_same.true) c.args.down found.starred found.count
          (found.count + 1) refl g i f;
    }

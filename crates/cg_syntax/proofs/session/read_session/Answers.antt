use Rattle.std.proofs.Common.{arith}
use Rattle.std.proofs.lemmas.Option.{MatchOption-at_none}
use Rattle.cg_syntax.proofs.SessionSteps.{answered_few}
use Rattle.cg_syntax.proofs.session.read_session.Goals as goal

pub unreachable-requires : goal.unreachable-requires
unreachable-requires c =
    let more = MatchOption-at_none _ _ c.in-None.is c.in_ok-session.ensures in
    let few = answered_few c.args.text.now in omega (arith, more, few)

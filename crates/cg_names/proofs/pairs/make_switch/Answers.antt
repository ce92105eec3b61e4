use Rattle.std.proofs.Common.{[], append-nil, sym}
use Rattle.cg_canon.proofs.MadeCalls.{given, given_refusal}
use Rattle.cg_names.proofs.pairs.make_switch.Goals as goal

pub returns-in_err-pair : goal.returns-in_err-pair
returns-in_err-pair g c =
    given_refusal [] c.in_err-pair.ensures.made c.make_pair.ensures.more c.from_residual.ensures.1 (sym (append-nil _))

pub returns : goal.returns
returns g c = given c.in_ok-pair.ensures.made c.make_pair.ensures.more c.in_ok-pair.ensures.game

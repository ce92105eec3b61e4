use Rattle.std.proofs.Common.{refl}
use Rattle.clap.proofs.OnLiterals.{clap_on_literals}
use Rattle.cg_words.specs.Accepted.{IsAccepted, cg_command, number_at, settings_of}
use Rattle.cg_words.proofs.laws.accepted_words.Goals as goal

pub returns : goal.returns
unfolding clap_on_literals cg_command settings_of number_at IsAccepted
returns c = record {
  none = record { taken = refl; values = refl };
  dashes = record { taken = refl; values = refl };
  most = record { taken = refl; values = refl };
  joined = record { taken = refl; values = refl };
  leading_zero = record { taken = refl; values = refl };
  plus = record { taken = refl; values = refl };
}

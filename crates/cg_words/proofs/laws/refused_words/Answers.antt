use Rattle.std.proofs.Common.{refl}
use Rattle.clap.proofs.OnLiterals.{clap_on_literals}
use Rattle.cg_words.specs.Accepted.{cg_command}
use Rattle.cg_words.proofs.laws.refused_words.Goals as goal

pub returns : goal.returns
unfolding clap_on_literals cg_command
returns c = record {
  help = record { refused = refl; reason = refl };
  short_help = record { refused = refl; reason = refl };
  version = record { refused = refl; reason = refl };
  zero = record { refused = refl; reason = refl };
  too_many = record { refused = refl; reason = refl };
  empty = record { refused = refl; reason = refl };
  missing = record { refused = refl; reason = refl };
  prefix = record { refused = refl; reason = refl };
  twice = record { refused = refl; reason = refl };
}

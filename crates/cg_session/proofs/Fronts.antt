-- A text of which a proper front was appended was not appended whole.
use Rattle.std.proofs.Common.{ℕ, List, Some, ap, length, length-append, arith}
use Rattle.std.specs.Io.KnownBytes.{Appends}
use Rattle.cg_session.specs.Written.{AppendsFront}

pub front-not-whole : (text before now : List ℕ) → AppendsFront text (Some before) (Some now) → ¬ Appends (Some before) (Some now) text
front-not-whole text before now part whole =
    omega (
      arith,
      ap length part.appended,
      ap length whole,
      ap length part.split,
      length-append before part.front,
      length-append before text,
      length-append part.front part.rest,
      part.some_left,
    )

use Rattle.std.specs.List.{flat_map}
use Rattle.cg_moves.proofs.RisingLemmas.{rising-rises}
use Rattle.cg_strip.specs.Placing.{placements}
use Rattle.cg_strip.proofs.PlacingLemmas.{move_is, move_has}
use Rattle.cg_strip.proofs.StripLaw.{rule_of}
use Rattle.cg_strip.proofs.laws.strip_moves.Goals as goal

pub returns-clause-placements : goal.returns-clause-placements
returns-clause-placements c book sound player row after = (
  move_is book.rules player row after,
  move_has book.rules player row after
      (λ r m. (rule_of book.weights book.rules r sound.rules m).some),
)

pub returns-clause-order : goal.returns-clause-order
returns-clause-order c book player row = rising-rises (flat_map (placements player row) book.rules)

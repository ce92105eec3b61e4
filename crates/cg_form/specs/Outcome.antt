-- Outcomes: who wins, whoever begins.
-- Siegel, Combinatorial Game Theory (2013), I.1: the four outcome classes.
use Rattle.std.specs.Prelude.{Bool, true, false}
use Rattle.cg_form.specs.Game.{Game}
use Rattle.cg_form.specs.Play.{left_survives, right_survives}

pub data Outcome : Type 0 where
  left_wins : Outcome
  right_wins : Outcome
  previous_wins : Outcome
  next_wins : Outcome

-- by whether Left, and whether Right, survives as second player; one who doesn't, loses as second player
abbrev pub outcome_by : Bool → Bool → Outcome
outcome_by true true = previous_wins
outcome_by true false = left_wins
outcome_by false true = right_wins
outcome_by false false = next_wins

abbrev pub outcome : Game → Outcome
outcome g = outcome_by (left_survives g) (right_survives g)

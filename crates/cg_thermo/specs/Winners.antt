-- Outcomes in code.
use Rattle.std.specs.Prelude.{Bool, true, false}
use Rattle.cg_form.specs.Outcome as form
use Rattle.cg_form.specs.Outcome.{left_wins, right_wins, previous_wins, next_wins}
use Rattle.cg_thermo.specs.declared.winner.Outcome.{Outcome}
use Rattle.cg_thermo.specs.declared.winner.Outcome.TheVariants.{L, R, P, N}

abbrev pub told : form.Outcome → Outcome
told left_wins = L
told right_wins = R
told previous_wins = P
told next_wins = N

-- by whether the game is at least 0, and at most 0
abbrev pub winner_by : Bool → Bool → Outcome
winner_by true true = P
winner_by true false = L
winner_by false true = R
winner_by false false = N

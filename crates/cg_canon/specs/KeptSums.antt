-- Sums of pairs of games of an arena.
use Rattle.std.specs.Prelude.{ℕ, List}
use Rattle.std.specs.List.{All, Contains}
use Rattle.cg_form.specs.Game.{Game}
use Rattle.cg_form.specs.Sum.{sum}
use Rattle.cg_nodes.specs.Can.{can}
use Rattle.cg_arena.specs.Arena.{IsIndex, game_of}
use Rattle.cg_canon.specs.declared.kept_sums.KeptSum.{KeptSum}
use Rattle.cg_canon.specs.declared.kept_sums.KeptSums.{KeptSums}
use Rattle.cg_canon.specs.Arena.{IsAt}

abbrev pub kept_of : ℕ → ℕ → ℕ → KeptSum
kept_of low high sum = record { low = low; high = high; sum = sum }

-- the table has the sum of the pair
abbrev pub IsKeptSum : KeptSums → ℕ → ℕ → ℕ → Type 0
IsKeptSum t low high sum = Contains t.sums.items (kept_of low high sum)

-- it is the index of the form of the sum of its two games
pub record SumStands (gs : List Game) (k : KeptSum) : Type 0 where
  pub low : IsIndex gs k.low
  pub high : IsIndex gs k.high
  pub is : IsAt gs k.sum (can (sum (game_of gs k.low) (game_of gs k.high)))

unfoldable pub SumsStand : List Game → KeptSums → Type 0
SumsStand gs t = All (SumStands gs) t.sums.items

-- Normal play: who can't move loses.
-- Siegel, Combinatorial Game Theory (2013), I.1. The law function `play` states both rules as they stand here; the
-- bounds below only make the recursions end.
use Rattle.std.specs.Prelude.{ℕ, zero, suc, Bool, false}
use Rattle.cg_form.specs.Game.{Game, lefts, rights}
use Rattle.cg_form.specs.Order.{no_one}
use Rattle.cg_form.specs.Size.{size}

-- Left survives as second player if for each Right option there is a Left option of it on which she survives as second
-- player: no Right option is such that she survives on none of its Left options
unfoldable pub left_survives_within : ℕ → Game → Bool
left_survives_within zero g = false
left_survives_within (suc n) g = no_one (λ y. no_one (λ z. left_survives_within n z) (lefts y)) (rights g)

unfoldable pub left_survives : Game → Bool
left_survives g = left_survives_within (suc (size g)) g

-- Right survives as second player if for each Left option there is a Right option of it on which he survives as second
-- player
unfoldable pub right_survives_within : ℕ → Game → Bool
right_survives_within zero g = false
right_survives_within (suc n) g = no_one (λ y. no_one (λ z. right_survives_within n z) (rights y)) (lefts g)

unfoldable pub right_survives : Game → Bool
right_survives g = right_survives_within (suc (size g)) g

-- Sums and negatives.
-- Siegel, Combinatorial Game Theory (2013), I.1 and II.1. The law function `sums` states their rules as they stand
-- here; the bounds below only make the recursions end.
use Rattle.std.specs.Prelude.{ℕ, zero, suc, ◌+◌, [], ◌++◌, map}
use Rattle.cg_form.specs.Game.{Game, lefts, node, rights}
use Rattle.cg_form.specs.Size.{size}

-- G + H = {A + H, G + C | B + H, G + D} over the Left options A of G and C of H, and the Right options B of G and
-- D of H
unfoldable pub sum_within : ℕ → Game → Game → Game
sum_within zero g h = node [] []
sum_within (suc n) g h = node (map (λ a. sum_within n a h) (lefts g) ++ map (λ c. sum_within n g c) (lefts h))
    (map (λ b. sum_within n b h) (rights g) ++ map (λ d. sum_within n g d) (rights h))

unfoldable pub sum : Game → Game → Game
sum g h = sum_within (suc (size g + size h)) g h

-- -G = {-B | -A} over the Right options B and the Left options A of G
unfoldable pub negative_within : ℕ → Game → Game
negative_within zero g = node [] []
negative_within (suc n) g = node (map (λ b. negative_within n b) (rights g)) (map (λ a. negative_within n a) (lefts g))

unfoldable pub negative : Game → Game
negative g = negative_within (suc (size g)) g

-- the game with no options
abbrev pub nothing : Game
nothing = node [] []

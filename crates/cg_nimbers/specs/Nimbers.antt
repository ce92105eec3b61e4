-- Nimbers: games in which both players have the same moves, to the lesser nimbers.
-- Siegel, Combinatorial Game Theory (2013), II.1.
use Rattle.std.specs.Prelude.{ℕ, zero, suc, pos, List, [], ◌∷◌, ◌++◌}
use Rattle.cg_dyadic.specs.Number.{Number, whole}
use Rattle.cg_form.specs.Game.{Game, node, number}

abbrev pub zero_number : Number
zero_number = whole (pos 0)

-- 0
abbrev pub zero_form : Game
zero_form = number zero_number

-- the nimber of the lesser ones: {gs|gs}, and 0 where there is none
abbrev pub nimber_over : List Game → Game
nimber_over [] = zero_form
nimber_over (g ∷ gs) = node (g ∷ gs) (g ∷ gs)

-- 0, *1, .., *(k - 1)
unfoldable pub nimbers_below : ℕ → List Game
nimbers_below zero = []
nimbers_below (suc k) = nimbers_below k ++ (nimber_over (nimbers_below k) ∷ [])

-- *k = {0, *1, .., *(k - 1) | 0, *1, .., *(k - 1)}, and *0 is 0
unfoldable pub nimber_form : ℕ → Game
nimber_form k = nimber_over (nimbers_below k)

-- A game whose options are moved by a number.
-- Siegel, Combinatorial Game Theory (2013), II.3: the Number Translation Theorem.
use Rattle.std.specs.Prelude.{map}
use Rattle.cg_dyadic.specs.Number.{Number}
use Rattle.cg_form.specs.Game.{Game, lefts, node, number, rights}
use Rattle.cg_form.specs.Sum.{sum}

-- {x + A | x + B} over the Left options A and the Right options B of g
abbrev pub translated : Number → Game → Game
translated x g = node (map (λ a. sum (number x) a) (lefts g)) (map (λ b. sum (number x) b) (rights g))

-- Sums of a number, of ups or downs, and of a nimber.
-- Siegel, Combinatorial Game Theory (2013), II.1 and II.3: ups, nimbers, and numbers added to infinitesimals.
use Rattle.std.specs.Prelude.{ℕ, suc, ℤ, pos, negsuc, [], ◌∷◌}
use Rattle.cg_dyadic.specs.Number.{Number}
use Rattle.cg_form.specs.Game.{Game, node, number}
use Rattle.cg_form.specs.Multiple.{multiple}
use Rattle.cg_form.specs.Sum.{negative, sum}
use Rattle.cg_nimbers.specs.Nimbers.{nimber_form, zero_form}

-- n.G for an integer n: -n copies of -G where n is below 0
abbrev pub integer_multiple : ℤ → Game → Game
integer_multiple (pos n) g = multiple n g
integer_multiple (negsuc n) g = multiple (suc n) (negative g)

-- ^ = {0|*}
abbrev pub up_form : Game
up_form = node (zero_form ∷ []) (nimber_form 1 ∷ [])

-- x + n.^ + *m
abbrev pub number_up_star : Number → ℤ → ℕ → Game
number_up_star x n m = sum (number x) (sum (integer_multiple n up_form) (nimber_form m))

-- The named games: nimbers, ups and downs, which are defined in cg_nimbers, switches, tiny and miny.
-- Siegel, Combinatorial Game Theory (2013), II.1 and II.4.
use Rattle.std.specs.Prelude.{Bool, true, false, if◌then◌else◌, List, [], ◌∷◌, ◌++◌}
use Rattle.cg_dyadic.specs.Exact.{number_negative}
use Rattle.cg_dyadic.specs.Number.{Number}
use Rattle.cg_form.specs.Game.{Game, node, number}
use Rattle.cg_form.specs.Structure.{is_same}
pub use Rattle.cg_nimbers.specs.Nimbers.{nimber_over, zero_form, zero_number}
unfoldable pub use Rattle.cg_nimbers.specs.Nimbers.{nimber_form, nimbers_below}
pub use Rattle.cg_nimbers.specs.Ups.{mirrored_if, star_form, ups_form, ups_last}
unfoldable pub use Rattle.cg_nimbers.specs.Ups.{ups_chain, ups_of}

-- ---- switches, tiny and miny

-- {x|y}
abbrev pub pair_form : Number → Number → Game
pair_form x y = node (number x ∷ []) (number y ∷ [])

-- the second number, unless it is the first
abbrev pub other_numbers : Number → Number → List Game
other_numbers x y = if is_same (number x) (number y) then [] else number y ∷ []

-- the positions of {x|y} where it is canonical: x, y unless it is x, and itself
abbrev pub pair_positions : Number → Number → List Game
pair_positions x y = number x ∷ (other_numbers x y ++ (pair_form x y ∷ []))

-- +-x = {x|-x}
abbrev pub switch_form : Number → Game
switch_form x = pair_form x (number_negative x)

-- the numbers of the option that is no number: 0 and -x of Tiny(x), x and 0 of Miny(x)
abbrev pub first_number : Bool → Number → Number
first_number false x = zero_number
first_number true x = x

abbrev pub second_number : Bool → Number → Number
second_number false x = number_negative x
second_number true x = zero_number

-- {0|-x}, or {x|0}
abbrev pub tiny_part : Bool → Number → Game
tiny_part miny x = pair_form (first_number miny x) (second_number miny x)

-- Tiny(x) = {0|{0|-x}}, and Miny(x) = {{x|0}|0}
abbrev pub tiny_form : Bool → Number → Game
tiny_form miny x = mirrored_if miny (zero_form ∷ []) (tiny_part miny x ∷ [])

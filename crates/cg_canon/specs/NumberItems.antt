-- The item of a number that may be out of range.
use Rattle.std.specs.Prelude.{ℕ, Option, Some, None}
use Rattle.cg_dyadic.specs.Number.{Number}
use Rattle.cg_form.specs.Game.{Game, number}
use Rattle.cg_canon.specs.Items.{Item, made, outside}

-- the item of the number, or a number out of range where none is given
abbrev pub number_made : Option Number → ℕ → Item
number_made (Some x) extra = made (number x) extra
number_made None extra = outside

-- a number is given, and what is said of a form holds of it
abbrev pub IsForm : Option Number → (Game → Type 0) → Type 0
IsForm (Some x) P = P (number x)
IsForm None P = ⊥

-- Sums of a number, of ups or downs, and of a nimber.
use Rattle.std.specs.Prelude.{◌≡◌, ◌+◌, ◌-ℤ◌, pos, bit_xor}
use Rattle.cg_form.specs.Game.{Game, number}
use Rattle.cg_form.specs.Order.{Equal}
use Rattle.cg_form.specs.Sum.{sum}
use Rattle.cg_nimbers.specs.NumberUpStar.{number_up_star}
use Rattle.cg_canon.specs.declared.number_up_star.NumberUpStar.{NumberUpStar}

-- x + n.^ + *m, where n is the number of ups less that of the downs
abbrev pub game_of : NumberUpStar → Game
game_of v = number_up_star v.number (pos v.ups -ℤ pos v.downs) v.star

-- the third is the sum of the first two, part by part
pub record IsPlus (a b c : NumberUpStar) : Type 0 where
  pub number : Equal (sum (number a.number) (number b.number)) (number c.number)
  pub ups : a.ups + b.ups + c.downs ≡ c.ups + (a.downs + b.downs)
  pub star : bit_xor a.star b.star ≡ c.star

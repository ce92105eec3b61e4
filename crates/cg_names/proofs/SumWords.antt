-- Two stars, and the options of a sum as either side sees them.
use Rattle.std.proofs.Common.{◌≡◌, ◌⊎◌, Bool, true, false}
use Rattle.cg_form.specs.Game.{Among, Game}
use Rattle.cg_form.specs.Order.{Equal}
use Rattle.cg_form.specs.Side.{far, near}
use Rattle.cg_form.specs.Sum.{negative, nothing, sum}
use Rattle.cg_form.proofs.Negative.{sum-negative}
use Rattle.cg_form.proofs.EqualGames.{zero_is}
use Rattle.cg_form.proofs.Preorder.{equal_back, equal_trans}
use Rattle.cg_form.proofs.Sum.{sum-left_cases, sum-left_first, sum-left_second, sum-right_cases, sum-right_first, sum-right_second}
use Rattle.cg_nimbers.proofs.IntegerMultiples.{sum_second}
use Rattle.cg_names.specs.Named.{star_form, zero_form}
use Rattle.cg_names.proofs.Mirrored.{star-negative}

-- * + * is 0
pub two_stars : Equal (sum star_form star_form) zero_form
two_stars = equal_trans (sum star_form star_form) (sum star_form (negative star_form)) zero_form
    (sum_second star_form (negative star_form) star_form star-negative)
    (equal_trans (sum star_form (negative star_form)) nothing zero_form (sum-negative star_form)
    (equal_back zero_form nothing zero_is))

-- ---- the options of a sum, as either side sees them

pub near_sum : (s : Bool) (g h x : Game) → Among x (near s (sum g h))
    → ((a : Game) × Among a (near s g) × (x ≡ sum a h)) ⊎ ((c : Game) × Among c (near s h) × (x ≡ sum g c))
near_sum true g h x m = sum-left_cases g h x m
near_sum false g h x m = sum-right_cases g h x m

pub far_sum : (s : Bool) (g h x : Game) → Among x (far s (sum g h))
    → ((a : Game) × Among a (far s g) × (x ≡ sum a h)) ⊎ ((c : Game) × Among c (far s h) × (x ≡ sum g c))
far_sum true g h x m = sum-right_cases g h x m
far_sum false g h x m = sum-left_cases g h x m

pub near_first : (s : Bool) (g h a : Game) → Among a (near s g) → Among (sum a h) (near s (sum g h))
near_first true g h a m = sum-left_first g h a m
near_first false g h a m = sum-right_first g h a m

pub near_second : (s : Bool) (g h c : Game) → Among c (near s h) → Among (sum g c) (near s (sum g h))
near_second true g h c m = sum-left_second g h c m
near_second false g h c m = sum-right_second g h c m

pub far_first : (s : Bool) (g h a : Game) → Among a (far s g) → Among (sum a h) (far s (sum g h))
far_first true g h a m = sum-right_first g h a m
far_first false g h a m = sum-left_first g h a m

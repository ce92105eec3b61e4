-- Cuts of the numbers, and what lies between two of them.
use Rattle.std.specs.Prelude.{Bool, true, false, not, ◌&&◌, ◌≡◌, Option, Some, None}
use Rattle.cg_dyadic.specs.declared.cut.Cut.{Cut}
use Rattle.cg_dyadic.specs.declared.cut.Found.{Found}
use Rattle.cg_dyadic.specs.declared.cut.Found.TheVariants as found
use Rattle.cg_dyadic.specs.Exact.{Holds}
use Rattle.cg_dyadic.specs.Number.{InRange, Number, number_le}
use Rattle.cg_dyadic.specs.Simplest.{NoOptionPasses, NonePasses}

-- A player: `true` is Left, to whom the greater is the better, and `false` is Right, to whom the less is the better. What
-- is said of one player holds of the other with the order turned, so one text serves both, here and in all crates.
abbrev pub Player : Type 0
Player = Bool

-- x is no better for the player than y
abbrev pub number_at_most : Player → Number → Number → Bool
number_at_most true x y = number_le x y
number_at_most false x y = number_le y x

-- x is in the cut at p: it is no better than p, and is not p where the cut is open
abbrev pub within_cut : Player → Number → Bool → Number → Bool
within_cut s p true x = number_at_most s x p
within_cut s p false x = not (number_at_most s p x)

abbrev pub in_cut : Player → Cut → Number → Bool
in_cut s c x = within_cut s c.at c.closed x

-- where there is no cut, no number is in it
abbrev pub in_some : Player → Option Cut → Number → Bool
in_some s None x = false
in_some s (Some c) x = in_cut s c x

-- x is in neither of the two cuts: it is above the low one and below the high one
abbrev pub is_between : Number → Bool → Number → Bool → Number → Bool
is_between p c q d x = not (within_cut true p c x) && not (within_cut false q d x)

abbrev pub in_gap : Option Cut → Option Cut → Number → Bool
in_gap low high x = not (in_some true low x) && not (in_some false high x)

-- what a search tells: the number in range none of whose options passes, one out of range, or that no number passes
abbrev pub FoundIs : (Number → Bool) → Found → Type 0
FoundIs test (found.Number x) = NoOptionPasses test x × InRange x
FoundIs test (found.Outside f) = (x : Number) × Holds f x × NoOptionPasses test x × (¬ InRange x)
FoundIs test found.Nothing = NonePasses test

-- x is the number in range between the cuts none of whose options is
pub record SimplestBetween (p : Number) (c : Bool) (q : Number) (d : Bool) (x : Number) : Type 0 where
  pub in_range : InRange x
  pub alone : NoOptionPasses (is_between p c q d) x

-- no number in range lies between the cuts
abbrev pub NoneBetween : Number → Bool → Number → Bool → Type 0
NoneBetween p c q d = (x : Number) → InRange x → is_between p c q d x ≡ false

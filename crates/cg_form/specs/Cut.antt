-- The cuts that a game makes among the numbers: those that are at most the game, and those that are at least the game.
use Rattle.std.specs.Prelude.{Bool, true, false, not, ◌||◌, ◌≡◌, List, Option}
use Rattle.cg_dyadic.specs.declared.cut.Cut.{Cut}
use Rattle.cg_dyadic.specs.Cut.{in_cut, in_some, number_at_most, within_cut}
use Rattle.cg_dyadic.specs.Number.{Number}
use Rattle.cg_form.specs.Game.{Game, number}
use Rattle.cg_form.specs.Order.{no_one}
use Rattle.cg_form.specs.Side.{Player, at_most}

abbrev pub AnyNumber : Number → Type 0
AnyNumber x = Unit {0}

-- of the numbers with P, the cut has those that are at most g (for Right: at least g)
pub record CutIs (P : Number → Type 0) (s : Player) (c : Cut) (g : Game) : Type 0 where
  pub tells : (x : Number) → P x → at_most s (number x) g ≡ in_cut s c x

-- of the numbers with P, the cut has those that are at most some game of the list (for Right: at least some)
pub record CutOf (P : Number → Type 0) (s : Player) (o : Option Cut) (gs : List Game) : Type 0 where
  pub tells : (x : Number) → P x → no_one (λ a. at_most s (number x) a) gs ≡ not (in_some s o x)

-- the cut a has all that the cut b has
abbrev pub covers_at : Player → Number → Bool → Number → Bool → Bool
covers_at s p c q true = within_cut s p c q
covers_at s p c q false = number_at_most s q p

abbrev pub covers : Player → Cut → Cut → Bool
covers s a b = covers_at s a.at a.closed b.at b.closed

-- the cut r has what the first two have together
pub record Joined (s : Player) (o : Option Cut) (c r : Cut) : Type 0 where
  pub both : (x : Number) → in_cut s r x ≡ (in_some s o x || in_cut s c x)

-- the cut of the other player's options
abbrev pub other_cut : Player → Cut → Cut → Cut
other_cut true low high = high
other_cut false low high = low

-- the same place, open where the cut is closed
pub record Turned (c r : Cut) : Type 0 where
  pub at_same : r.at ≡ c.at
  pub closed_not : r.closed ≡ not c.closed

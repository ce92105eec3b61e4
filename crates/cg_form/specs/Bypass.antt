-- Options that are bypassed: what may stand in the place of an option.
use Rattle.std.specs.Prelude.{◌⊎◌, ◌≡◌, List}
use Rattle.cg_dyadic.specs.Number.{Number}
use Rattle.cg_form.specs.Best.{Best}
use Rattle.cg_form.specs.Canonical.{Canonical}
use Rattle.cg_form.specs.Game.{Among, Game, number}
use Rattle.cg_form.specs.Side.{AtMost, Player, far, near}

-- a is in the list, or no better than one of it, or reversible through a game all of whose own options are covered
pub data Covered (s : Player) (g : Game) (ls : List Game) : Game → Type 0 where
  kept : {a : Game} → Among a ls → Covered s g ls a
  under : {a : Game} → (b : Game) → Among b ls → AtMost s a b → Covered s g ls a
  bypassed : {a : Game} → (b : Game) → Among b (far s a) → AtMost s b g
      → ((c : Game) → Among c (near s b) → Covered s g ls c) → Covered s g ls a

-- a canonical game that may stand as an option of g: it is a number, or not reversible
pub record Fine (s : Player) (g x : Game) : Type 0 where
  pub canonical : Canonical x
  pub less : ¬ AtMost s g x
  pub way : ((y : Number) × (x ≡ number y)) ⊎ ((b : Game) → Among b (far s x) → ¬ AtMost s b g)

-- from the first list to the second, only games that may stand as options of g are added
pub record Grown (s : Player) (g : Game) (old new : List Game) : Type 0 where
  pub keeps : (x : Game) → Among x old → Among x new
  pub fine : (x : Game) → Among x new → Among x old ⊎ Fine s g x

-- each game of the second list is covered by the first
pub record AllCovered (s : Player) (g : Game) (ls gs : List Game) : Type 0 where
  pub each : (c : Game) → Among c gs → Covered s g ls c

-- games that may stand as options of g, none no better than another, in rising order
pub record Stands (s : Player) (g : Game) (gs : List Game) : Type 0 where
  pub fine : (x : Game) → Among x gs → Fine s g x
  pub best : Best s gs gs

-- the list `new` stands, has a game as good as each of `old`, and covers gs
pub record Taken (s : Player) (g : Game) (old gs new : List Game) : Type 0 where
  pub stands : Stands s g new
  pub above : (x : Game) → Among x old → (c : Game) × Among c new × AtMost s x c
  pub covered : AllCovered s g new gs

-- the best of what covers the options, and may stand as options of g
pub record Replaces (s : Player) (g : Game) (old new : List Game) : Type 0 where
  pub candidates : List Game
  pub covered : AllCovered s g candidates old
  pub fine : (x : Game) → Among x candidates → Fine s g x
  pub best : Best s candidates new

-- How far a walk over the positions of a game of an arena has come.
use Rattle.std.specs.Prelude.{◌≡◌, ℕ, ◌<◌, ◌≤◌, ◌++◌, List, All, get_or, length, map}
use Rattle.cg_form.specs.Canonical.{Canonical}
use Rattle.cg_form.specs.Extended.{IsClosed}
use Rattle.cg_form.specs.Game.{Game}
use Rattle.cg_arena.specs.Arena.{AreIndexes, IsIndex, game_of, games_of}
use Rattle.cg_canon.specs.declared.walk.Position.{Position}
use Rattle.cg_canon.specs.Walk.{ArePlaces, indexes_of}

-- different indexes have different games
pub record AreApart (gs : List Game) : Type 0 where
  pub each : (p q : ℕ) → IsIndex gs p → IsIndex gs q → game_of gs p ≡ game_of gs q → p ≡ q

-- the position of the index stands at the place
pub record HasPlace (ps : List Position) (place index : ℕ) : Type 0 where
  pub within : place < length ps
  pub is : get_or (indexes_of ps) place 0 ≡ index

-- the game has a mark, which says the place of its position
pub record HasMark (ps : List Position) (marks : List ℕ) (index : ℕ) : Type 0 where
  pub within : index < length marks
  pub place : HasPlace ps (get_or marks index 0) index

-- the games of the positions
abbrev pub found_in : List Game → List Position → List Game
found_in gs ps = games_of gs (indexes_of ps)

-- each position is marked with its place
pub record AreMarked (gs : List Game) (marks : List ℕ) (ps : List Position) : Type 0 where
  pub indexes : AreIndexes gs (indexes_of ps)
  pub room : length gs ≤ length marks
  pub marked : (i : ℕ) → i < length ps → get_or marks (get_or (indexes_of ps) i 0) 0 ≡ i

-- behind the options stand the places of the positions of these indexes
pub record Appended (ps : List Position) (old new indexes : List ℕ) : Type 0 where
  pub places : List ℕ
  pub is : new ≡ old ++ places
  pub below : All (λ q. q < length ps) places
  pub same : map (λ q. get_or (indexes_of ps) q 0) places ≡ indexes

-- the positions that were found, each once and marked with its place, and with each its own positions
pub record WalkStands (gs : List Game) (marks : List ℕ) (ps : List Position) (options : List ℕ) : Type 0 where
  pub marked : AreMarked gs marks ps
  pub canonical : All Canonical (found_in gs ps)
  pub closed : IsClosed (found_in gs ps)
  pub places : ArePlaces options (found_in gs ps) ps

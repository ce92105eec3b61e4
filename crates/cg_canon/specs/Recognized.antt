-- Games of an arena that are known as sums of a number, of ups or downs, and of a nimber.
use Rattle.std.specs.Prelude.{◌<◌, ℕ, List, length, slice_index_or}
use Rattle.std.specs.List.{All, Contains}
use Rattle.cg_form.specs.Canonical.{Canonical}
use Rattle.cg_form.specs.Game.{Game}
use Rattle.cg_form.specs.Order.{Equal}
use Rattle.cg_nimbers.specs.Nimbers.{nimber_form}
use Rattle.cg_arena.specs.Arena as arena
use Rattle.cg_arena.specs.Arena.{IsIndex}
use Rattle.cg_canon.specs.declared.number_up_star.NumberUpStar.{NumberUpStar}
use Rattle.cg_canon.specs.declared.recognized.KnownAt.{KnownAt}
use Rattle.cg_canon.specs.declared.recognized.Recognized.{Recognized}
use Rattle.cg_canon.specs.Arena.{IsAt}
use Rattle.cg_canon.specs.NumberUpStars.{game_of}

-- the game is the canonical form of x + n.^ + *m
pub record HasParts (g : Game) (v : NumberUpStar) : Type 0 where
  pub canonical : Canonical g
  pub equal : Equal g (game_of v)

-- so is the game at the index
pub record IsKnownAt (gs : List Game) (index : ℕ) (v : NumberUpStar) : Type 0 where
  pub within : IsIndex gs index
  pub parts : HasParts (arena.game_of gs index) v

abbrev pub known_at : ℕ → NumberUpStar → KnownAt
known_at index v = record { game = index; parts = v }

-- the table has the index with this
abbrev pub IsListed : Recognized → ℕ → NumberUpStar → Type 0
IsListed t index v = Contains t.games.items (known_at index v)

abbrev pub Holds : List Game → KnownAt → Type 0
Holds gs k = IsKnownAt gs k.game k.parts

-- at these indexes stand 0, *1, *2 and so on
unfoldable pub AreNimbers : List Game → List ℕ → Type 0
AreNimbers gs is = (n : ℕ) → n < length is → IsAt gs (slice_index_or is n 0) (nimber_form n)

pub record Recognizes (gs : List Game) (t : Recognized) : Type 0 where
  pub canonical : All Canonical gs
  pub games : All (Holds gs) t.games.items
  pub nimbers : AreNimbers gs t.nimbers.items

-- all games of the arena are canonical, and what the table says of them holds
unfoldable pub AreRecognized : List Game → Recognized → Type 0
AreRecognized gs t = Recognizes gs t

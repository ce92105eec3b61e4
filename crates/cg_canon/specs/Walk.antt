-- What a walk over the positions of a game has found, where fs are their games.
use Rattle.std.specs.Prelude.{◌≡◌, ℕ, ◌<◌, ◌≤◌, List, All, get_or, length, map, pos, false, true}
use Rattle.std.specs.List.{slice_range}
use Rattle.cg_dyadic.specs.Number.{Number, whole}
use Rattle.cg_form.specs.Canonical.{Canonical}
use Rattle.cg_form.specs.Game.{Game, node, number}
use Rattle.cg_arena.specs.Arena.{StandFor, game_of, games_of}
use Rattle.cg_canon.specs.declared.walk.Position.{Position}
use Rattle.cg_canon.specs.declared.walk.Walk.{Walk}

-- the places of the Left options of a position, and of its Right options
abbrev pub lefts_of : List ℕ → Position → List ℕ
lefts_of options p = slice_range options p.lefts p.rights

abbrev pub rights_of : List ℕ → Position → List ℕ
rights_of options p = slice_range options p.rights p.end

-- the position is a number, for which no options are listed
pub record IsNumberPlace (g : Game) (p : Position) : Type 0 where
  pub x : Number
  pub is : g ≡ number x
  pub none : p.lefts ≡ p.end

-- the position stands at the place i, and its options at places before it
pub record IsPlace (options : List ℕ) (fs : List Game) (i : ℕ) (p : Position) : Type 0 where
  pub first : p.lefts ≤ p.rights
  pub second : p.rights ≤ p.end
  pub end : p.end ≤ length options
  pub lefts_before : All (λ q. q < i) (lefts_of options p)
  pub rights_before : All (λ q. q < i) (rights_of options p)
  pub as_zero : p.is_zero ≡ true → game_of fs i ≡ number (whole (pos 0))
  pub as_number : p.is_number ≡ true → IsNumberPlace (game_of fs i) p
  pub as_node : p.is_number ≡ false → game_of fs i ≡ node (games_of fs (lefts_of options p)) (games_of fs (rights_of options p))

-- each position of the walk stands at its place
abbrev pub ArePlaces : List ℕ → List Game → List Position → Type 0
ArePlaces options fs ps = (i : ℕ) (p : Position) → i < length ps → p ≡ get_or ps i p → IsPlace options fs i p

abbrev pub indexes_of : List Position → List ℕ
indexes_of ps = map (λ p. p.game) ps

-- the games gs of an arena have those of the walk at the indexes of its positions
pub record IsWalk (gs : List Game) (w : Walk) (fs : List Game) : Type 0 where
  pub at : StandFor gs (indexes_of w.positions.items) fs
  pub canonical : All Canonical fs
  pub places : ArePlaces w.options.items fs w.positions.items

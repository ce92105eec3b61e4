-- What handles and lists of handles stand for in a store.
use Rattle.std.specs.Prelude.{◌≡◌, ℕ, Option, Some, None, List, [], ◌∷◌, map}
use Rattle.cg_form.specs.Game as tree
use Rattle.cg_form.specs.Game.{number, options, none, node}
pub use Rattle.cg_form.specs.Game.{IsNode}
pub use Rattle.cg_form.specs.Range.{IsInRange}
use Rattle.cg_cells.specs.Meaning.{Has}
use Rattle.cg_cells.specs.Store.{State, thing_at}
use Rattle.cg_nodes.specs.declared.long.Chunk.{Chunk}
use Rattle.cg_nodes.specs.declared.reading.Split.{Split}
use Rattle.cg_nodes.specs.declared.reading.Reading.{Reading}
use Rattle.cg_nodes.specs.declared.reading.Reading.TheVariants.{Number, Game}
use Rattle.cg_nodes.specs.declared.handle.Kind.{Kind}
use Rattle.cg_nodes.specs.declared.handle.Kind.TheVariants as kind
use Rattle.cg_nodes.specs.Meant.{Meant, form, list}
use Rattle.cg_nodes.specs.Spelled.{contents_at}

-- the handle stands for the game
abbrev pub StandsFor : {R : Type 0} → State Meant R → ℕ → tree.Game → Type 0
StandsFor {R} s handle g = thing_at s handle ≡ Some (form g)

abbrev pub game_in : Option Meant → tree.Game
game_in (Some (form g)) = g
game_in _ = options none none

-- the game that the handle stands for
abbrev pub game_at : {R : Type 0} → State Meant R → ℕ → tree.Game
game_at {R} s handle = game_in (thing_at s handle)

-- the handle stands for a game
abbrev pub IsGame : {R : Type 0} → State Meant R → ℕ → Type 0
IsGame {R} s handle = thing_at s handle ≡ Some (form (game_at s handle))

abbrev pub AreGames : {R : Type 0} → State Meant R → List ℕ → Type 0
AreGames {R} s [] = Unit {0}
AreGames {R} s (h ∷ hs) = IsGame s h × AreGames s hs

abbrev pub games_at : {R : Type 0} → State Meant R → List ℕ → List tree.Game
games_at {R} s hs = map (game_at s) hs

-- the handles stand for the games, in their order
abbrev pub StandFor : {R : Type 0} → State Meant R → List ℕ → List tree.Game → Type 0
StandFor {R} s hs gs = AreGames s hs × (games_at s hs ≡ gs)

-- no number is in the list twice
abbrev pub AreDistinct : List ℕ → Type 0
AreDistinct [] = Unit {0}
AreDistinct (h ∷ hs) = (¬ Has hs h) × AreDistinct hs

-- the id of a list cell, or none for the empty list, stands for the list
abbrev pub ListsAs : {R : Type 0} → State Meant R → Option ℕ → List tree.Game → Type 0
ListsAs {R} s None gs = gs ≡ []
ListsAs {R} s (Some id) [] = ⊥
ListsAs {R} s (Some id) (g ∷ gs) = thing_at s id ≡ Some (list (g ∷ gs))

abbrev pub list_in_or : Option Meant → List tree.Game
list_in_or (Some (list gs)) = gs
list_in_or _ = []

-- the list that the id of a list cell stands for
abbrev pub listed : {R : Type 0} → State Meant R → Option ℕ → List tree.Game
listed {R} s None = []
listed {R} s (Some id) = list_in_or (thing_at s id)

abbrev pub IsList : {R : Type 0} → State Meant R → Option ℕ → Type 0
IsList {R} s o = ListsAs s o (listed s o)

-- what was read of a number or a game
abbrev pub IsRead : {R : Type 0} → State Meant R → Reading → tree.Game → Type 0
IsRead {R} s (Number x) g = g ≡ number x
IsRead {R} s (Game ls rs) g = IsList s ls × IsList s rs × (g ≡ node (listed s ls) (listed s rs))

-- the number, where the game is written as one
abbrev pub IsKind : Kind → tree.Game → Type 0
IsKind (kind.Number x) g = g ≡ number x
IsKind kind.Game g = IsNode g

-- the first handle of a list, and the list of the others
abbrev pub IsHead : {R : Type 0} → State Meant R → Option Split → List tree.Game → Type 0
IsHead {R} s None gs = gs ≡ []
IsHead {R} s (Some p) gs = IsGame s p.first × IsList s p.rest × (gs ≡ game_at s p.first ∷ listed s p.rest)

abbrev pub contents_from : ℕ → Option (List ℕ) → Option (List ℕ)
contents_from content (Some contents) = Some (content ∷ contents)
contents_from content None = None

-- the content of a chunk, and the chunk of the other contents
abbrev pub IsChunk : {R : Type 0} → State Meant R → Chunk → Option (List ℕ) → Type 0
IsChunk {R} s chunk contents = contents ≡ contents_from chunk.content (contents_at (thing_at s) chunk.next)

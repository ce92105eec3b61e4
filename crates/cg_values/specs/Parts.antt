-- Boards in parts: a part is a piece of a board where the rules cut, and the board itself where they don't.
use Rattle.std.specs.Prelude.{◌≡◌, ℕ, List, [], ◌∷◌, ◌++◌, map, length, slice_index, if◌then◌else◌}
use Rattle.std.specs.List.{flat_map}
use Rattle.cg_canon.specs.Items.{AllPass, Item}
use Rattle.cg_canon.specs.declared.rest.WorkRest.{WorkRest}
use Rattle.cg_cells.specs.Store.{State}
use Rattle.cg_form.specs.Game.{Game}
use Rattle.cg_nodes.specs.Boards.{AreBelow}
use Rattle.cg_nodes.specs.Can.{can}
use Rattle.cg_nodes.specs.Games.{StandFor}
use Rattle.cg_nodes.specs.Meant.{Meant}
use Rattle.cg_moves.specs.declared.graph.PositionGraph.{PositionGraph}
use Rattle.cg_moves.specs.Grid.{Grid}
use Rattle.cg_moves.specs.Graph.{AreNext, StandAt, uncut}
use Rattle.cg_moves.specs.Raw.{raw}
use Rattle.cg_moves.specs.Rules.{GameRules, cuts, followers, pieces}
use Rattle.cg_values.specs.Notes.{AreNoted}
use Rattle.cg_values.specs.Items.{parts_reach, sum_up_items, value_item}

abbrev pub parts_of : GameRules → Grid → List Grid
parts_of r = if cuts r then pieces r else uncut

-- these are the parts that play can come to, with what comes next after each of them, and the places of the board's own parts
pub record IsOpened (r : GameRules) (p : Grid) (graph : PositionGraph) : Type 0 where
  pub boards : graph.boards ≡ parts_reach r p
  pub next : AreNext r (parts_of r) graph.counts.items graph.places.items [] graph.boards graph.next.items
  pub starts : StandAt graph.boards graph.starts.items (parts_of r p)

-- ---- values

-- the canonical forms of the boards' trees
abbrev pub values_of : GameRules → List Grid → List Game
values_of r ps = map can (map (raw r) ps)

abbrev pub handles_at : List ℕ → List ℕ → List ℕ
handles_at handles places = map (slice_index handles) places

-- the handles at these places stand for the values of the boards, in order
pub record HoldAt {R : Type 0} (s : State Meant R) (r : GameRules) (handles places : List ℕ) (ps : List Grid) : Type 0 where
  pub within : AreBelow (length handles) places
  pub values : StandFor s (handles_at handles places) (values_of r ps)

-- ---- items

-- of joining the parts of a board
abbrev pub joins : ℕ → GameRules → Grid → List Item
joins limit r p = sum_up_items limit (map (raw r) (parts_of r p))

-- of a part: of joining the parts of each board that a move leads to, Left's moves first, and its own value
abbrev pub part_items : ℕ → GameRules → Grid → List Item
part_items limit r p = flat_map (joins limit r) (followers r p) ++ (value_item r p ∷ [])

-- of these parts, made in their order, each front all of whose items pass is noted: so each part is whose own item was charged
abbrev pub FrontsNoted : {R : Type 0} → State Meant (WorkRest R) → State Meant (WorkRest R) → GameRules → List Grid → Type 0
FrontsNoted {R} s t r ps =
    (front behind : List Grid) (total : ℕ) → ps ≡ front ++ behind
    → AllPass s.rest.share s.rest.spent (flat_map (part_items s.rest.limit r) front) total → AreNoted t r front

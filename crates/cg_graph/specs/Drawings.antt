-- What a text is as a drawing of Hackenbush, and why it is none.
use Rattle.std.specs.Prelude.{ℕ, ◌-◌, ◌≡◌, ◌≤◌, suc, true, List, length, map, slice_get, All, codes, Option, Some, None, Result, Ok, Err}
use Rattle.cg_reading.specs.Bytes.{has}
use Rattle.cg_reading.specs.Column.{Stops}
use Rattle.cg_reading.specs.Readers.{whole_at}
use Rattle.cg_moves.specs.Grid.{Grid}
use Rattle.cg_moves.specs.Rules.{GameRules}
use Rattle.cg_graph.specs.Grammar.{edges, vertex, colour}
use Rattle.cg_graph.specs.Hackenbush.{hackenbush}
use Rattle.cg_graph.specs.Paths.{Edge, settled}
use Rattle.cg_graph.specs.Reading.{edges_at}
use Rattle.cg_graph.specs.declared.edge.ColouredEdge.{ColouredEdge}
use Rattle.cg_graph.specs.declared.fault.GraphFault.{GraphFault}
use Rattle.cg_graph.specs.declared.fault.GraphFault.TheVariants as faults
use Rattle.cg_graph.specs.declared.items.EdgeItem.{EdgeItem}

-- ---- drawings

-- two vertices and a colour
pub record IsEdge (e : ColouredEdge) : Type 0 where
  pub one : has vertex e.one ≡ true
  pub colour : has colour e.colour ≡ true
  pub other : has vertex e.other ≡ true

-- 1 to 64 edges
pub record IsDrawing (drawing : List ColouredEdge) : Type 0 where
  pub some : 1 ≤ length drawing
  pub few : length drawing ≤ 64
  pub edges : All IsEdge drawing

-- the edges without their colours
abbrev pub graph_of : List ColouredEdge → List Edge
graph_of drawing = map (λ e. record { one = e.one; other = e.other }) drawing

-- the colours of the edges
abbrev pub colours_of : List ColouredEdge → List ℕ
colours_of drawing = map (λ e. e.colour) drawing

-- the rules of Hackenbush on the drawing
abbrev pub drawing_rules : List ColouredEdge → GameRules
drawing_rules drawing = hackenbush (graph_of drawing)

-- the board at the start: a row of the colours, in which the edges that aren't joined to the ground are gone
abbrev pub drawing_start : List ColouredEdge → Grid
drawing_start drawing = record {
  rows = 1;
  columns = length drawing;
  symbols = codes ".brg";
  cells = settled (graph_of drawing) (colours_of drawing);
}

-- ---- texts

-- the text is in the grammar of edges
abbrev pub AreEdges : List ℕ → Type 0
AreEdges text = (items : List EdgeItem) × edges 1 items text

abbrev pub drawing_of : List EdgeItem → List ColouredEdge
drawing_of items = map (λ i. i.edge) items

-- the text reads as this drawing
pub record IsDrawnAs (text : List ℕ) (drawing : List ColouredEdge) : Type 0 where
  pub items : List EdgeItem
  pub is : edges 1 items text
  pub few : length items ≤ 64
  pub same : drawing ≡ drawing_of items

-- the text is in the grammar, and its 65th edge starts at the place
pub record IsTooLarge (text : List ℕ) (place : ℕ) : Type 0 where
  pub items : List EdgeItem
  pub is : edges 1 items text
  pub first : EdgeItem
  pub at : slice_get items 64 ≡ Some first
  pub same : place ≡ first.place

-- why the text is no drawing: the place where it leaves the grammar, or that of the 65th edge
abbrev pub IsNotDrawn : List ℕ → GraphFault → Type 0
IsNotDrawn text faults.Memory = Unit {0}
IsNotDrawn text (faults.Edges place) = Stops AreEdges text place
IsNotDrawn text (faults.Large place) = IsTooLarge text place
IsNotDrawn text _ = ⊥

-- ---- the same, computed: the law function `drawings` says so

abbrev pub few_drawn : List EdgeItem → Option EdgeItem → Result (List ColouredEdge) GraphFault
few_drawn items None = Ok (drawing_of items)
few_drawn items (Some item) = Err (faults.Large item.place)

abbrev pub drawn : List ℕ → Result (List EdgeItem) ℕ → Result (List ColouredEdge) GraphFault
drawn text (Ok items) = few_drawn items (slice_get items 64)
drawn text (Err left) = Err (faults.Edges (suc (length text) - left))

unfoldable pub drawing_read : List ℕ → Result (List ColouredEdge) GraphFault
drawing_read text = drawn text (whole_at edges_at text)

-- What two texts are as vertices and edges of Col or Snort, and why they are none.
use Rattle.std.specs.Prelude.{ℕ, ◌+◌, ◌-◌, ◌==◌, ◌&&◌, ◌||◌, ◌≡◌, ◌≢◌, ◌⊎◌, ◌<◌, ◌≤◌, suc, Bool, true, nat_le, nat_lt, if◌then◌else◌}
use Rattle.std.specs.Prelude.{List, [], ◌∷◌, ◌++◌, length, map, position, All, codes, Option, Some, None, Result, Ok, Err}
use Rattle.std.specs.Option.{option_or}
use Rattle.cg_reading.specs.Column.{Stops}
use Rattle.cg_reading.specs.Readers.{whole_at}
use Rattle.cg_moves.specs.Grid.{AreCells, Grid}
use Rattle.cg_moves.specs.Rules.{GameRules}
use Rattle.cg_moves.specs.Texts.{is_foreign}
use Rattle.cg_graph.specs.Colouring.{colouring}
use Rattle.cg_graph.specs.Grammar.{pairs}
use Rattle.cg_graph.specs.Paths.{Edge}
use Rattle.cg_graph.specs.Reading.{pairs_at}
use Rattle.cg_graph.specs.declared.edge.Pair.{Pair}
use Rattle.cg_graph.specs.declared.fault.GraphFault.{GraphFault}
use Rattle.cg_graph.specs.declared.fault.GraphFault.TheVariants as faults
use Rattle.cg_graph.specs.declared.items.PairItem.{PairItem}

-- ---- coloured graphs

-- which of the two games it is, the colours of the vertices, and which vertices are adjacent
pub record ColouredGraph : Type 0 where
  pub snort : Bool
  pub vertices : List ℕ
  pub edges : List Pair

-- two different vertices out of so many
pub record IsPair (vertices : ℕ) (e : Pair) : Type 0 where
  pub one : e.one < vertices
  pub other : e.other < vertices
  pub apart : e.other ≢ e.one

-- 1 to 52 vertices
pub record IsColouredGraph (coloured_graph : ColouredGraph) : Type 0 where
  pub some : 1 ≤ length coloured_graph.vertices
  pub few : length coloured_graph.vertices ≤ 52
  pub vertices : AreCells (codes ".xo") coloured_graph.vertices
  pub edges : All (IsPair (length coloured_graph.vertices)) coloured_graph.edges

abbrev pub edges_of : List Pair → List Edge
edges_of pairs = map (λ e. record { one = e.one; other = e.other }) pairs

-- the pair is one of the two vertices
abbrev pub is_between : ℕ → ℕ → Pair → Bool
is_between k l e = ((e.one == k) && (e.other == l)) || ((e.one == l) && (e.other == k))

-- the rules of Col or Snort on the coloured graph
abbrev pub coloured_graph_rules : ColouredGraph → GameRules
coloured_graph_rules coloured_graph = colouring coloured_graph.snort (length coloured_graph.vertices) (edges_of coloured_graph.edges)

-- the board at the start: the row of the vertices
abbrev pub coloured_graph_start : ColouredGraph → Grid
coloured_graph_start coloured_graph = record {
  rows = 1;
  columns = length coloured_graph.vertices;
  symbols = codes ".xo";
  cells = coloured_graph.vertices;
}

-- ---- vertices

-- why the text is no row of vertices: the place of the first byte that is none of the symbols; else that there is none, or
-- more than 52
abbrev pub vertices_refused : Option ℕ → ℕ → Option GraphFault
vertices_refused (Some k) vertices = Some (faults.Symbol (suc k))
vertices_refused None vertices =
    if vertices == 0 then Some (faults.Empty 1) else (if nat_lt 52 vertices then Some (faults.Large 53) else None)

abbrev pub vertices_fault : List ℕ → Option GraphFault
vertices_fault vertices = vertices_refused (position (is_foreign true (codes ".xo")) vertices) (length vertices)

-- ---- pairs

-- the place of the vertex that the letter names, counted from 0: `a` to `z` name the first 26 vertices, and `A` to `Z` the
-- next 26
abbrev pub named : ℕ → ℕ
named c = if nat_le 97 c then c - 97 else 26 + (c - 65)

-- among so many vertices, a pair has at the place a letter that names no vertex, or that repeats the first letter of its pair
pub data IsAmiss (vertices : ℕ) (item : PairItem) (place : ℕ) : Type 0 where
  first_none : vertices ≤ named item.one → place ≡ item.place → IsAmiss vertices item place
  second_none : vertices ≤ named item.other → place ≡ item.place + 1 → IsAmiss vertices item place
  repeated : item.other ≡ item.one → place ≡ item.place + 1 → IsAmiss vertices item place

-- one of the pairs has it
pub record IsBroken (vertices : ℕ) (items : List PairItem) (place : ℕ) : Type 0 where
  pub before : List PairItem
  pub item : PairItem
  pub behind : List PairItem
  pub among : items ≡ before ++ (item ∷ behind)
  pub amiss : IsAmiss vertices item place

-- the least of these places
pub record IsFirstBroken (vertices : ℕ) (items : List PairItem) (place : ℕ) : Type 0 where
  pub broken : IsBroken vertices items place
  pub least : (other : ℕ) → IsBroken vertices items other → place ≤ other

-- the text is in the grammar of pairs
abbrev pub ArePairs : List ℕ → Type 0
ArePairs text = (items : List PairItem) × pairs 1 items text

-- the place of a text that has no pairs of so many vertices: where it leaves the grammar, or else the least place of such a
-- letter
abbrev pub IsPairsPlace : ℕ → List ℕ → ℕ → Type 0
IsPairsPlace vertices text place =
    Stops ArePairs text place ⊎ ((items : List PairItem) × pairs 1 items text × IsFirstBroken vertices items place)

abbrev pub pair_of : PairItem → Pair
pair_of i = record { one = named i.one; other = named i.other }

abbrev pub pairs_of : List PairItem → List Pair
pairs_of items = map pair_of items

-- ---- texts

-- the two texts read as the coloured graph
pub record IsColouredGraphOf (snort : Bool) (vertices edges : List ℕ) (coloured_graph : ColouredGraph) : Type 0 where
  pub sound : vertices_fault vertices ≡ None
  pub items : List PairItem
  pub is : pairs 1 items edges
  pub unbroken : (place : ℕ) → ¬ IsBroken (length vertices) items place
  pub same : coloured_graph ≡ record { snort = snort; vertices = vertices; edges = pairs_of items }

-- why they don't: the vertices are refused; or they aren't, and the edges are
pub data IsNoColouredGraph (vertices edges : List ℕ) : GraphFault → Type 0 where
  no_memory : IsNoColouredGraph vertices edges faults.Memory
  no_vertices : (fault : GraphFault) → vertices_fault vertices ≡ Some fault → IsNoColouredGraph vertices edges fault
  no_edges : (place : ℕ) → vertices_fault vertices ≡ None → IsPairsPlace (length vertices) edges place
      → IsNoColouredGraph vertices edges (faults.Edges place)

-- ---- the same, computed: the law function `coloured_graphs` says so

-- the least place at which the pair is amiss
abbrev pub pair_fault : ℕ → PairItem → Option ℕ
pair_fault vertices i =
    if nat_le vertices (named i.one) then Some i.place
    else (if nat_le vertices (named i.other) || (i.other == i.one) then Some (i.place + 1) else None)

unfoldable pub pairs_fault : ℕ → List PairItem → Option ℕ
pairs_fault vertices [] = None
pairs_fault vertices (i ∷ items) = option_or (pair_fault vertices i) (pairs_fault vertices items)

abbrev pub sound_coloured : ColouredGraph → Option ℕ → Result ColouredGraph GraphFault
sound_coloured coloured_graph None = Ok coloured_graph
sound_coloured coloured_graph (Some place) = Err (faults.Edges place)

abbrev pub edges_coloured : Bool → List ℕ → List ℕ → Result (List PairItem) ℕ → Result ColouredGraph GraphFault
edges_coloured snort vertices edges (Ok items) =
    sound_coloured (record { snort = snort; vertices = vertices; edges = pairs_of items }) (pairs_fault (length vertices) items)
edges_coloured snort vertices edges (Err left) = Err (faults.Edges (suc (length edges) - left))

abbrev pub coloured : Bool → List ℕ → List ℕ → Option GraphFault → Result ColouredGraph GraphFault
coloured snort vertices edges (Some fault) = Err fault
coloured snort vertices edges None = edges_coloured snort vertices edges (whole_at pairs_at edges)

unfoldable pub coloured_graph_read : Bool → List ℕ → List ℕ → Result ColouredGraph GraphFault
coloured_graph_read snort vertices edges = coloured snort vertices edges (vertices_fault vertices)

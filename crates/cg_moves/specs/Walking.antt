-- A walk over boards: what was visited, and what is left to do.
use Rattle.std.specs.Prelude.{◌≡◌, ℕ, List, []}
use Rattle.std.specs.List.{flat_map}
use Rattle.cg_moves.specs.declared.edges.Edges.{Edges}
use Rattle.cg_moves.specs.declared.graph.Adjacency.{Adjacency}
use Rattle.cg_moves.specs.Grid.{Grid}
use Rattle.cg_moves.specs.Kept.{kept}
use Rattle.cg_moves.specs.Graph.{AreNext}
use Rattle.cg_moves.specs.Plays.{Play, parts_of, play_of}
use Rattle.cg_moves.specs.Rules.{GameRules, In}
use Rattle.cg_moves.specs.Walks.{AreOpen, IsWalk, Visit, boards_left}

-- the game, what comes next in a walk, and the boards that it begins with
pub record Walk : Type 0 where
  pub game : GameRules
  pub edges : Edges
  pub starts : List Grid

abbrev pub walk_of : GameRules → Edges → List Grid → Walk
walk_of r edges starts = record { game = r; edges = edges; starts = starts }

abbrev pub play : Walk → Play
play w = play_of w.game w.edges

abbrev pub parts : Walk → Grid → List Grid
parts w = parts_of w.game w.edges

-- the boards that come after the starts, and the starts themselves, each once
abbrev pub reached : Walk → List Grid
reached w = kept [] (flat_map (play w).all w.starts)

-- boards that were found: each once, and all among those that come after the starts
pub record AreFound (w : Walk) (found : List Grid) : Type 0 where
  pub source : List Grid
  pub is : found ≡ kept [] source
  pub among : (p : Grid) → In p source → In p (flat_map (play w).all w.starts)

-- what holds of a walk: what comes next after each board that was visited stands in the lists; no board that is to be left was
-- visited; and in the end all boards are visited that come after the starts
pub record IsOnWalk (w : Walk) (boards : List Grid) (nexts : List Adjacency) (counts places : List ℕ) (visits : List Visit)
    : Type 0 where
  pub walk : IsWalk (play w) boards visits
  pub rest : kept boards (boards_left (play w) visits) ≡ reached w
  pub next : AreNext w.game (parts w) counts places [] boards nexts
  pub fresh : AreOpen (play w) boards visits

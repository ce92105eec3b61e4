-- A walk over boards: what is left to do, and what it adds to what was visited.
use Rattle.std.specs.Prelude.{◌≡◌, ◌⊎◌, ℕ, ◌<◌, true, List, [], ◌∷◌, ◌++◌}
use Rattle.std.specs.List.{flat_map}
use Rattle.cg_moves.specs.Grid.{Grid}
use Rattle.cg_moves.specs.Kept.{kept}
use Rattle.cg_moves.specs.Plays.{Play}
use Rattle.cg_moves.specs.Rules.{In}

-- what a task does: to enter a board is to see all that come after it and the board itself, and to leave it is to see it alone
pub data Visit : Type 0 where
  Enters : Grid → Visit
  Leaves : Grid → Visit

-- the boards of a task
abbrev pub visit_boards : Play → Visit → List Grid
visit_boards r (Enters p) = r.all p
visit_boards r (Leaves p) = p ∷ []

-- the boards of the tasks, the last task first
abbrev pub boards_left : Play → List Visit → List Grid
boards_left r [] = []
boards_left r (t ∷ ts) = boards_left r ts ++ visit_boards r t

-- the tasks to enter the boards, the first board last
abbrev pub entered : List Grid → List Visit
entered [] = []
entered (p ∷ ps) = entered ps ++ (Enters p ∷ [])

-- with each board all that come after it are in the list
abbrev pub IsClosed : Play → List Grid → Type 0
IsClosed r visited = (p : Grid) → In p visited → (q : Grid) → In q (r.all p) → In q visited

-- where a board is to be left, those that come after its next boards were visited or are left to see before
abbrev pub IsReady : Play → List Grid → Visit → List Visit → Type 0
IsReady r visited (Enters p) before = Unit {0}
IsReady r visited (Leaves p) before = (q : Grid) → In q (flat_map r.all (r.next p))
    → In q visited ⊎ In q (boards_left r before)

abbrev pub AreReady : Play → List Grid → List Visit → Type 0
AreReady r visited [] = Unit {0}
AreReady r visited (t ∷ ts) = IsReady r visited t ts × AreReady r visited ts

abbrev pub visit_board : Visit → Grid
visit_board (Enters p) = p
visit_board (Leaves p) = p

-- the boards of the tasks are such boards
abbrev pub AreKnown : Play → List Visit → Type 0
AreKnown r [] = Unit {0}
AreKnown r (t ∷ ts) = (r.has (visit_board t) ≡ true) × AreKnown r ts

-- boards to begin with: such boards, and all with the same symbols
pub record AreStarts (r : Play) (starts : List Grid) : Type 0 where
  pub symbols : List ℕ
  pub known : (p : Grid) → In p starts → (p.symbols ≡ symbols) × (r.has p ≡ true)

-- what holds of a walk: the boards that were visited, each with all that come after it, and the tasks that are left
pub record IsWalk (r : Play) (visited : List Grid) (tasks : List Visit) : Type 0 where
  pub known : AreKnown r tasks
  pub closed : IsClosed r visited
  pub ready : AreReady r visited tasks

-- the walk after some task: it sees the same boards in the end
pub record GoesOn (r : Play) (old new : List Grid) (before after : List Visit) : Type 0 where
  pub walk : IsWalk r new after
  pub rest : kept new (boards_left r after) ≡ kept old (boards_left r before)

-- above each task to leave a board stand tasks of boards with a lower measure, and the board wasn't visited
abbrev pub AreOpen : Play → List Grid → List Visit → Type 0
AreOpen r visited [] = Unit {0}
AreOpen r visited (Enters p ∷ ts) = AreOpen r visited ts
AreOpen r visited (Leaves p ∷ ts) = (¬ In p visited) × ((t : Visit) → In t ts → r.measure (visit_board t) < r.measure p)
    × AreOpen r visited ts

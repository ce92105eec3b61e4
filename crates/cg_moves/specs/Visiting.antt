-- A walk by numbers: which parts were visited, and which were entered and are to be left.
use Rattle.std.specs.Prelude.{◌≡◌, ℕ, zero, suc, ◌+◌, ◌-◌, ◌*◌, ◌<◌, ◌≤◌, List, [], ◌∷◌, ◌++◌, get_or, length, map, take, drop}
use Rattle.cg_moves.specs.declared.graph.Adjacency.{Adjacency}
use Rattle.cg_moves.specs.declared.linked.Linked.{Linked}
use Rattle.cg_moves.specs.declared.walk.Open.{Open}
use Rattle.cg_moves.specs.declared.walk.Visited.{Visited}
use Rattle.cg_moves.specs.Grid.{Grid}
use Rattle.cg_moves.specs.Graph.{IsAt}
use Rattle.cg_moves.specs.Linked.{IsLinked}
use Rattle.cg_moves.specs.Plays.{IsPlay, Play}
use Rattle.cg_moves.specs.Rules.{In}
use Rattle.cg_moves.specs.Walking.{IsOnWalk, Walk, play}
use Rattle.cg_moves.specs.Walks.{AreStarts, Enters, Leaves, Visit, entered}

-- the board at this place, and past the last one some board
abbrev pub board_at : List Grid → ℕ → Grid
board_at [] n = record { rows = 0; columns = 0; symbols = []; cells = [] }
board_at (p ∷ ps) zero = p
board_at (p ∷ ps) (suc n) = board_at ps n

abbrev pub boards_at : List Grid → List ℕ → List Grid
boards_at found = map (board_at found)

-- the numbers of the parts that are left to visit of those that come next after one that was entered
abbrev pub numbers_left : List ℕ → Open → List ℕ
numbers_left numbers o = take (o.end - o.next) (drop o.next numbers)

-- to visit them, and then to leave it
abbrev pub visits_by : List Grid → List ℕ → Open → List Visit
visits_by found numbers o = Leaves (board_at found o.number) ∷ entered (boards_at found (numbers_left numbers o))

-- so for all that were entered, one after another
abbrev pub visits_of : List Grid → List ℕ → List Open → List Visit
visits_of found numbers [] = []
visits_of found numbers (o ∷ os) = visits_by found numbers o ++ visits_of found numbers os

-- a number that falls with each step
abbrev pub work_left : Play → List Visit → ℕ
work_left r [] = 0
work_left r (Enters p ∷ vs) = work_left r vs + 2 * length (r.all p)
work_left r (Leaves p ∷ vs) = work_left r vs + 1

-- a part that was entered is one that was found, and what is left of what comes next after it stands among the numbers
pub record IsInside (found : List Grid) (numbers : List ℕ) (o : Open) : Type 0 where
  pub number : o.number < length found
  pub next : o.next ≤ o.end
  pub end : o.end ≤ length numbers

-- a part's rank is 0 where it wasn't visited, and else one more than its place among those that were
pub record AreRanks (found visited : List Grid) (ranks : List ℕ) : Type 0 where
  pub size : length ranks ≡ length found
  pub seen : (n k : ℕ) → n < length found → get_or ranks n 0 ≡ suc k → IsAt visited k (board_at found n)
  pub unseen : (n : ℕ) → n < length found → get_or ranks n 0 ≡ 0 → ¬ In (board_at found n) visited

-- what is known of the parts before they are visited: each is one of those that come after the starts, and has what comes next
-- after it listed
pub record CanVisit (w : Walk) (s : Linked) : Type 0 where
  pub lawful : IsPlay (play w)
  pub starts : AreStarts (play w) w.starts
  pub linked : IsLinked w s.found s.next.items s.counts.items s.numbers.items
  pub all : length s.next.items ≡ length s.found

-- what holds of a walk by numbers
pub record AreVisited (w : Walk) (s : Linked) (boards : List Grid) (nexts : List Adjacency) (places ranks : List ℕ) (visits : List Visit)
    : Type 0 where
  pub on : IsOnWalk w boards nexts s.counts.items places visits
  pub ranked : AreRanks s.found boards ranks

abbrev pub IsVisiting : Walk → Linked → Visited → List Visit → Type 0
IsVisiting w s v visits = AreVisited w s v.boards.items v.next.items v.places.items v.ranks.items visits

-- the number is of the next part to visit after one that was entered: it wasn't visited, and those before it were
pub record IsStep (w : Walk) (s : Linked) (v : Visited) (below : List Visit) (before after : Open) (n : ℕ) : Type 0 where
  pub number : n < length s.found
  pub new : ¬ In (board_at s.found n) v.boards.items
  pub visiting : IsVisiting w s v ((below ++ visits_by s.found s.numbers.items after) ++ (Enters (board_at s.found n) ∷ []))
  pub less : work_left (play w) (visits_by s.found s.numbers.items after) + 2 * length ((play w).all (board_at s.found n))
      ≤ work_left (play w) (visits_by s.found s.numbers.items before)

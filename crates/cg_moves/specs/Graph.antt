-- The graph of positions: boards that were reached, with what comes next after each of them, by places.
use Rattle.std.specs.Prelude.{◌≡◌, ℕ, zero, suc, ◌+◌, ◌≤◌, List, [], ◌∷◌, ◌++◌, map, length, take, drop}
use Rattle.std.specs.List.{flat_map}
use Rattle.cg_moves.specs.declared.graph.Adjacency.{Adjacency}
use Rattle.cg_moves.specs.declared.player.Player.TheVariants.{Left}
use Rattle.cg_moves.specs.Grid.{Grid}
use Rattle.cg_moves.specs.Rules.{GameRules, boards_after, followers}

-- the list has this board at this place, counted from 0
abbrev pub IsAt : List Grid → ℕ → Grid → Type 0
IsAt [] n p = ⊥
IsAt (q ∷ qs) zero p = q ≡ p
IsAt (q ∷ qs) (suc n) p = IsAt qs n p

-- the list has these boards at these places
abbrev pub StandAt : List Grid → List ℕ → List Grid → Type 0
StandAt list [] [] = Unit {0}
StandAt list [] (p ∷ ps) = ⊥
StandAt list (n ∷ ns) [] = ⊥
StandAt list (n ∷ ns) (p ∷ ps) = IsAt list n p × StandAt list ns ps

-- a board as its own only part, where boards aren't cut
abbrev pub uncut : Grid → List Grid
uncut p = p ∷ []

-- Left's moves on the board lead to so many boards; and of these counts so many, from this one on, say how many parts each board has
-- that a move leads to, Left's first
pub record AreCounted (r : GameRules) (parts : Grid → List Grid) (all : List ℕ) (p : Grid) (count first moves : ℕ) : Type 0 where
  pub lefts : count ≡ length (boards_after r Left p)
  pub inside : first + moves ≤ length all
  pub counts : take moves (drop first all) ≡ map (λ q. length (parts q)) (followers r p)

-- what comes next after a board, in lists of counts and of places: how many boards moves lead to, and how many parts each has; and
-- the places of all those parts among the boards before
pub record IsNext (r : GameRules) (parts : Grid → List Grid) (counts all : List ℕ) (before : List Grid) (p : Grid)
    (next : Adjacency) : Type 0 where
  pub counted : AreCounted r parts counts p next.lefts next.first_count next.moves
  pub inside : next.first_place + next.parts ≤ length all
  pub places : StandAt before (take next.parts (drop next.first_place all)) (flat_map parts (followers r p))

-- so for each board of the list, among the boards that stand before it
abbrev pub AreNext : GameRules → (Grid → List Grid) → List ℕ → List ℕ → List Grid → List Grid → List Adjacency → Type 0
AreNext r parts counts places before [] [] = Unit {0}
AreNext r parts counts places before [] (n ∷ ns) = ⊥
AreNext r parts counts places before (p ∷ ps) [] = ⊥
AreNext r parts counts places before (p ∷ ps) (n ∷ ns) = IsNext r parts counts places before p n
    × AreNext r parts counts places (before ++ (p ∷ [])) ps ns

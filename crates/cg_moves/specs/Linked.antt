-- Parts by numbers: a part's number is its place among those that were found.
use Rattle.std.specs.Prelude.{◌≡◌, ℕ, ◌<◌, true, All, List, [], ◌∷◌, ◌++◌, length}
use Rattle.cg_moves.specs.declared.edges.Edges.{Edges}
use Rattle.cg_moves.specs.declared.graph.Adjacency.{Adjacency}
use Rattle.cg_moves.specs.declared.linked.Linking.{Linking}
use Rattle.cg_moves.specs.Found.{SameSymbols}
use Rattle.cg_moves.specs.Grid.{Grid}
use Rattle.cg_moves.specs.Graph.{IsAt, IsNext, StandAt}
use Rattle.cg_moves.specs.Lawful.{IsLawful}
use Rattle.cg_moves.specs.Plays.{MayGo, parts_of}
use Rattle.cg_moves.specs.Rules.{GameRules, In}
use Rattle.cg_moves.specs.Walking.{AreFound, Walk, parts, play}
use Rattle.cg_moves.specs.Walks.{AreStarts}

-- what has a number keeps it
abbrev pub IsWider : List Grid → List Grid → Type 0
IsWider found wider = (n : ℕ) (p : Grid) → IsAt found n p → IsAt wider n p

-- the numbers of these boards were put behind others
abbrev pub NumberedAs : List Grid → List ℕ → List ℕ → List Grid → Type 0
NumberedAs found before after ps = (more : List ℕ) × (after ≡ before ++ more) × StandAt found more ps

-- the first of the boards have what comes next after them listed, by numbers
abbrev pub AreLinked : GameRules → (Grid → List Grid) → List ℕ → List ℕ → List Grid → List Grid → List Adjacency → Type 0
AreLinked r cut counts numbers found ps [] = Unit {0}
AreLinked r cut counts numbers found [] (n ∷ ns) = ⊥
AreLinked r cut counts numbers found (p ∷ ps) (n ∷ ns) = IsNext r cut counts numbers found p n × AreLinked r cut counts numbers found ps ns

-- parts that were found among those that come after the starts, and what comes next after the first of them
pub record IsLinked (w : Walk) (found : List Grid) (nexts : List Adjacency) (counts numbers : List ℕ) : Type 0 where
  pub among : AreFound w found
  pub linked : AreLinked w.game (parts w) counts numbers found found nexts
  pub inside : All (λ n. n < length found) numbers

abbrev pub IsLinking : Walk → Linking → Type 0
IsLinking w s = IsLinked w s.found s.next.items s.counts.items s.numbers.items

-- each of the boards is its own only part
abbrev pub AreUncut : (Grid → List Grid) → List Grid → Type 0
AreUncut cut ps = (p : Grid) → In p ps → cut p ≡ p ∷ []

-- the rules of a walk are lawful, and the boards that it begins with are boards of the game with the same symbols, each its own
-- only part
pub record CanLink (w : Walk) : Type 0 where
  pub lawful : IsLawful w.game
  pub may : MayGo w.game w.edges
  pub starts : AreStarts (play w) w.starts
  pub uncut : AreUncut (parts w) w.starts

-- the rules are lawful, and the board is one of the game, with the symbols of the parts that were found, each its own only part
pub record MayLink (r : GameRules) (edges : Edges) (found : List Grid) (p : Grid) : Type 0 where
  pub lawful : IsLawful r
  pub may : MayGo r edges
  pub has : r.has p ≡ true
  pub uncut : AreUncut (parts_of r edges) found
  pub same_symbols : SameSymbols (found ++ (p ∷ []))

-- What comes next after boards, in lists that grow behind.
use Rattle.std.proofs.lemmas.Bool.Decides.{nat_tests}
use Rattle.std.proofs.Common.{◌≡◌, refl, ℕ, ◌+◌, ◌≤◌, List, [], ◌∷◌, ◌++◌, length, length-append, take, drop, append_assoc, ◌∙◌, arith}
use Rattle.std.proofs.lemmas.List.{append-nil, drop-append-le, length-drop, take-append-le}
use Rattle.cg_moves.specs.declared.graph.Adjacency.{Adjacency}
use Rattle.cg_moves.specs.Grid.{Grid}
use Rattle.cg_moves.specs.Graph.{AreCounted, AreNext, IsNext}
use Rattle.cg_moves.specs.Rules.{GameRules}

-- a part of a list stays where more comes behind it
pub part-more : (xs ys : List ℕ) (first many : ℕ) → first + many ≤ length xs → take many (drop first (xs ++ ys)) ≡ take many (drop first xs)
part-more xs ys first many inside = grind (arith, nat_tests, length-drop, drop-append-le, take-append-le)

module _ (r : GameRules) (cut : Grid → List Grid) where
  pub counted-more : (counts more : List ℕ) (p : Grid) (count first moves : ℕ) → AreCounted r cut counts p count first moves
      → AreCounted r cut (counts ++ more) p count first moves
  counted-more counts more p count first moves h = let l = length-append counts more in let i = h.inside in record {
    lefts = h.lefts;
    inside = omega arith;
    counts = part-more counts more first moves h.inside ∙ h.counts;
  }

  module _ (counts places cs ks : List ℕ) where
    pub next-more : (before : List Grid) (p : Grid) (n : Adjacency) → IsNext r cut counts places before p n
        → IsNext r cut (counts ++ cs) (places ++ ks) before p n
    next-more before p n h =
        let l = length-append places ks in
        let i = h.inside in
        record {
          counted = counted-more counts cs p n.lefts n.first_count n.moves h.counted;
          inside = omega arith;
          places = rw (part-more places ks n.first_place n.parts h.inside) h.places;
        }

    pub nexts-more : (before ps : List Grid) (ns : List Adjacency) → AreNext r cut counts places before ps ns
        → AreNext r cut (counts ++ cs) (places ++ ks) before ps ns
    nexts-more before [] [] h = tt
    nexts-more before [] (n ∷ ns) h = absurd h
    nexts-more before (p ∷ ps) [] h = absurd h
    nexts-more before (p ∷ ps) (n ∷ ns) h = (next-more before p n h.0, nexts-more (before ++ (p ∷ [])) ps ns h.1)

  module _ (counts places : List ℕ) where
    pub next-append : (before ps : List Grid) (ns : List Adjacency) (p : Grid) (n : Adjacency)
        → AreNext r cut counts places before ps ns → IsNext r cut counts places (before ++ ps) p n
        → AreNext r cut counts places before (ps ++ (p ∷ [])) (ns ++ (n ∷ []))
    next-append before [] [] p n h i =
        (rw (← (append-nil before)) i, tt)
    next-append before [] (m ∷ ns) p n h i = absurd h
    next-append before (q ∷ ps) [] p n h i = absurd h
    next-append before (q ∷ ps) (m ∷ ns) p n h i =
        (h.0, next-append (before ++ (q ∷ [])) ps ns p n h.1 (rw (append_assoc before (q ∷ []) ps) i))

    pub next-size : (before ps : List Grid) (ns : List Adjacency) → AreNext r cut counts places before ps ns → length ns ≡ length ps
    next-size before [] [] h = refl
    next-size before [] (n ∷ ns) h = absurd h
    next-size before (p ∷ ps) [] h = absurd h
    next-size before (p ∷ ps) (n ∷ ns) h = let l = next-size (before ++ (p ∷ [])) ps ns h.1 in omega arith

-- Where a walk by numbers begins, and where it ends.
use Rattle.std.proofs.Common.{◌≡◌, refl, ℕ, zero, suc, ◌+◌, ◌-◌, ◌<◌, ◌≤◌, List, [], ◌∷◌, ◌++◌, length, map, get_or, drop, replicate, ap, sym, ◌∙◌, arith}
use Rattle.std.specs.Prelude.{All}
use Rattle.std.specs.List.{flat_map}
use Rattle.std.proofs.Math.Seq.{drop-cons}
use Rattle.std.proofs.lemmas.List.{get_or-replicate, length-replicate}
use Rattle.cg_moves.specs.declared.graph.Adjacency.{Adjacency}
use Rattle.cg_moves.specs.declared.linked.Linked.{Linked}
use Rattle.cg_moves.specs.declared.walk.Open.{Open}
use Rattle.cg_moves.specs.Grid.{Grid}
use Rattle.cg_moves.specs.Graph.{StandAt}
use Rattle.cg_moves.specs.Rules.{In}
use Rattle.cg_moves.specs.Visiting.{AreVisited, CanVisit, board_at, boards_at, visits_by, visits_of}
use Rattle.cg_moves.specs.Walking.{Walk, play, reached}
use Rattle.cg_moves.specs.Walks.{Enters, entered}
use Rattle.cg_form.proofs.Firsts.{extended-has}
use Rattle.cg_moves.proofs.Members.{carry}
use Rattle.cg_moves.proofs.Numbers.{stand-boards, visits_of-append}
use Rattle.cg_moves.proofs.OnWalk.{begun}
use Rattle.cg_moves.proofs.PlayOrder.{start-reached}
use Rattle.cg_moves.proofs.Same.{boards}
use Rattle.cg_moves.proofs.Visits.{ranks-inside, ranks-some, ranks-stand}

pub drop-past : (xs : List ℕ) (i : ℕ) → length xs ≤ i → drop i xs ≡ []
drop-past [] zero h = refl
drop-past [] (suc i) h = refl
drop-past (x ∷ xs) zero h = absurd (omega arith)
drop-past (x ∷ xs) (suc i) h = drop-past xs i (omega arith)

-- the first of the starts is entered, and then the others
pub start-split : (found : List Grid) (starts : List ℕ) (i : ℕ) → i < length starts → entered (boards_at found (drop i starts))
    ≡ entered (boards_at found (drop (i + 1) starts)) ++ (Enters (board_at found (get_or starts i 0)) ∷ [])
start-split found starts i low =
    let e : suc i ≡ i + 1 = omega arith in
    ap (λ z. entered (boards_at found z)) (drop-cons starts i 0 low)
    ∙ ap (λ z. entered (boards_at found (drop z starts)) ++ (Enters (board_at found (get_or starts i 0)) ∷ [])) e

-- one part alone was entered
pub one-entered : (found : List Grid) (numbers : List ℕ) (all none : List Open) (o : Open) → none ≡ [] → all ≡ none ++ (o ∷ [])
    → visits_of found numbers all ≡ visits_by found numbers o
one-entered found numbers all none o nothing e =
    ap (visits_of found numbers) e ∙ visits_of-append found numbers none o
    ∙ ap (λ z. visits_of found numbers z ++ visits_by found numbers o) nothing

module _ (w : Walk) (s : Linked) (can : CanVisit w s) where
  none-visited : (numbers : List ℕ) → StandAt s.found numbers w.starts
      → AreVisited w s [] [] [] (replicate (length s.found) 0) (entered (boards_at s.found numbers))
  none-visited numbers stand = record {
    on = rw (stand-boards s.found numbers w.starts stand) (begun w can.starts s.counts.items);
    ranked = record {
      size = length-replicate (length s.found) 0;
      seen = λ n k low e. let z = get_or-replicate {A = ℕ} (length s.found) n 0 0 low in absurd (omega (arith, z, e));
      unseen = λ n low e m. absurd m;
    };
  }

  pub started : (visited : List Grid) (nexts : List Adjacency) (places ranks : List ℕ) (size : ℕ) (numbers : List ℕ) → visited ≡ []
      → nexts ≡ [] → places ≡ [] → ranks ≡ replicate size 0 → size ≡ length s.found → StandAt s.found numbers w.starts
      → AreVisited w s visited nexts places ranks (entered (boards_at s.found numbers))
  started visited nexts places ranks size numbers v n p r z stand =
      rw (v, n, p, r ∙ ap (λ k. replicate k 0) z) (none-visited numbers stand)

  module _ (visited : List Grid) (nexts : List Adjacency) (places ranks : List ℕ) (x : AreVisited w s visited nexts places ranks [])
      (numbers : List ℕ) (stand : StandAt s.found numbers w.starts) where
    starts-in : (q : Grid) → In q w.starts → In q visited
    starts-in q m = carry q (reached w) visited (sym x.on.rest)
        (extended-has boards [] (flat_map (play w).all w.starts) q (start-reached (play w) can.lawful w.starts can.starts q m))

    pub ends-inside : All (λ n. n < length ranks) numbers
    ends-inside = ranks-inside s.found visited ranks x.ranked numbers w.starts stand

    pub ends-some : All (λ n. 0 < get_or ranks n 0) numbers
    ends-some = ranks-some s.found visited ranks x.ranked numbers w.starts stand starts-in

    pub ends-stand : StandAt visited (map (λ n. get_or ranks n 0 - 1) numbers) w.starts
    ends-stand = ranks-stand s.found visited ranks x.ranked numbers w.starts stand starts-in

-- The steps of a walk by numbers.
use Rattle.std.proofs.Common.{◌≡◌, refl, ℕ, zero, suc, ◌+◌, ◌-◌, ◌*◌, ◌<◌, ◌≤◌, true, inl, inr, List, [], ◌∷◌}
use Rattle.std.proofs.Common.{◌++◌, length, length-append, map, get_or, set, take, drop, append_assoc, ap, sym, ◌∙◌, arith}
use Rattle.std.specs.Prelude.{All}
use Rattle.std.specs.List.{flat_map}
use Rattle.std.proofs.Math.Seq.{drop-append_seam}
use Rattle.std.proofs.lemmas.List.{append-nil, get_or-set_other, get_or-set_same, length-drop, length-map, length-set, length-take-le, take_all}
use Rattle.cg_form.specs.Firsts.{EachOnce}
use Rattle.cg_moves.specs.declared.graph.Adjacency.{Adjacency}
use Rattle.cg_moves.specs.declared.linked.Linked.{Linked}
use Rattle.cg_moves.specs.declared.walk.Open.{Open}
use Rattle.cg_moves.specs.Grid.{Grid}
use Rattle.cg_moves.specs.Graph.{IsAt, IsNext, StandAt}
use Rattle.cg_moves.specs.Rules.{In}
use Rattle.cg_moves.specs.Visiting.{AreRanks, AreVisited, CanVisit, IsInside, board_at, boards_at, numbers_left, visits_by, work_left}
use Rattle.cg_moves.specs.Walking.{Walk, parts, play}
use Rattle.cg_moves.specs.Walks.{Enters, Leaves, Visit, entered}
use Rattle.cg_form.proofs.Firsts.{extended-once, in-append, one_more-new}
use Rattle.cg_moves.proofs.Counted.{same-or-not}
use Rattle.cg_moves.proofs.Fresh.{open-front, open-last, open-new, open-visited}
use Rattle.cg_moves.proofs.Links.{at-below, links-at, stand-below}
use Rattle.cg_moves.proofs.Listed.{next-append, nexts-more}
use Rattle.cg_moves.proofs.Members.{in_flat_mapped, in_one}
use Rattle.cg_moves.proofs.Numbers.{at-board, board-at, once-at, stand-boards, work-entered}
use Rattle.cg_moves.proofs.OnWalk.{next-parts}
use Rattle.cg_moves.proofs.PlaceLemmas.{at-append, at-in, at-last, stand-size}
use Rattle.cg_moves.proofs.PlayOrder.{own-all}
use Rattle.cg_moves.proofs.Same.{boards}
use Rattle.cg_moves.proofs.TaskLemmas.{known-back, ready-last}
use Rattle.cg_moves.proofs.WalkLemmas.{enter_new, enter_visited, leave}

-- ---- ranks

positive : (r : ℕ) → (r ≡ 0 → ⊥) → 0 < r
positive zero f = absurd (f refl)
positive (suc r) f = omega arith

taken-size : (xs : List ℕ) (k m : ℕ) → k + m ≤ length xs → length (take m (drop k xs)) ≡ m
taken-size xs k m low = let l = length-drop k xs in length-take-le m (drop k xs) (omega (arith, l, low))

module _ (found visited : List Grid) (ranks : List ℕ) (x : AreRanks found visited ranks) where
  rank-some : (n : ℕ) (q : Grid) → IsAt found n q → In q visited → 0 < get_or ranks n 0
  rank-some n q at m = positive (get_or ranks n 0)
      (λ none. x.unseen n (at-below found n q at) none (rw (at-board found n q at) m))

  pub rank-at : (n : ℕ) (q : Grid) → IsAt found n q → 0 < get_or ranks n 0 → IsAt visited (get_or ranks n 0 - 1) q
  rank-at n q at some =
      rw (← (at-board found n q at)) (x.seen n (get_or ranks n 0 - 1) (at-below found n q at) (omega (arith, some)))

  pub ranks-some : (ns : List ℕ) (qs : List Grid) → StandAt found ns qs → ((q : Grid) → In q qs → In q visited)
      → All (λ n. 0 < get_or ranks n 0) ns
  ranks-some [] qs h all k d below = absurd (omega arith)
  ranks-some (n ∷ ns) [] h all k d below = absurd h
  ranks-some (n ∷ ns) (q ∷ qs) h all zero d below = rank-some n q h.0 (all q (inl refl))
  ranks-some (n ∷ ns) (q ∷ qs) h all (suc k) d below = ranks-some ns qs h.1 (λ p m. all p (inr m)) k d (omega arith)

  pub ranks-stand : (ns : List ℕ) (qs : List Grid) → StandAt found ns qs → ((q : Grid) → In q qs → In q visited)
      → StandAt visited (map (λ n. get_or ranks n 0 - 1) ns) qs
  ranks-stand [] [] h all = tt
  ranks-stand [] (q ∷ qs) h all = absurd h
  ranks-stand (n ∷ ns) [] h all = absurd h
  ranks-stand (n ∷ ns) (q ∷ qs) h all =
      (rank-at n q h.0 (rank-some n q h.0 (all q (inl refl))), ranks-stand ns qs h.1 (λ p m. all p (inr m)))

  pub ranks-inside : (ns : List ℕ) (qs : List Grid) → StandAt found ns qs → All (λ n. n < length ranks) ns
  ranks-inside ns qs h k d below = let l = stand-below found ns qs h k d below in let s = x.size in omega (arith, l, s)

  -- one more is visited
  module _ (once : EachOnce found) (n : ℕ) (low : n < length found) (after : List Grid) (new : List ℕ)
      (is : after ≡ visited ++ (board_at found n ∷ [])) (are : new ≡ set ranks n (length after)) where
    many : length after ≡ length visited + 1
    many = ap length is ∙ length-append visited (board_at found n ∷ [])

    here : get_or new n 0 ≡ length visited + 1
    here = let s = x.size in ap (λ z. get_or z n 0) are ∙ get_or-set_same ranks n (length after) 0 (omega (arith, s, low)) ∙ many

    there : (m : ℕ) → (m ≡ n → ⊥) → get_or new m 0 ≡ get_or ranks m 0
    there m other = ap (λ z. get_or z m 0) are ∙ get_or-set_other ranks n m (length after) 0 other

    seen-more : (m k : ℕ) → m < length found → get_or new m 0 ≡ suc k → IsAt after k (board_at found m)
    seen-more m k below e = elim (same-or-not m n) [
      | inl same ↦ (let at : k ≡ length visited = omega (arith, here, e, same, ap (λ z. get_or new z 0) same) in
          rw is (rw at (rw same (at-last visited (board_at found n)))))
      | inr other ↦ rw is (at-append visited (board_at found n ∷ []) k (board_at found m) (x.seen m k below (sym (there m other) ∙ e)))
    ]

    unseen-more : (m : ℕ) → m < length found → get_or new m 0 ≡ 0 → ¬ In (board_at found m) after
    unseen-more m below e k = elim (same-or-not m n) [
      | inl same ↦ (let g = ap (λ z. get_or new z 0) same in absurd (omega (arith, here, e, g)))
      | inr other ↦ elim (in-append (board_at found m) visited (board_at found n ∷ []) (rw (← is) k)) [
        | inl old ↦ x.unseen m below (sym (there m other) ∙ e) old
        | inr last ↦ absurd (other (once-at found once m n (board_at found m) (board-at found m below)
            (rw (in_one (board_at found m) (board_at found n) last) (board-at found n low))))
      ]
    ]

    pub ranks-more : AreRanks found after new
    ranks-more = record {
      size = ap length are ∙ length-set ranks n (length after) ∙ x.size;
      seen = seen-more;
      unseen = unseen-more;
    }

-- ---- a walk

module _ (w : Walk) (s : Linked) (can : CanVisit w s) where
  pub found-once : EachOnce s.found
  found-once = rw can.linked.among.is (extended-once boards [] can.linked.among.source tt)

  module _ (n : ℕ) (low : n < length s.found) (next : Adjacency) (e : next ≡ get_or s.next.items n next) where
    pub next-of : IsNext w.game (parts w) s.counts.items s.numbers.items s.found (board_at s.found n) next
    next-of = let all = can.all in
        links-at w.game (parts w) s.counts.items s.numbers.items s.found s.found s.next.items n (board_at s.found n) next
        can.linked.linked (board-at s.found n low) (omega (arith, low, all)) e

    pub stand-of : StandAt s.found (take next.parts (drop next.first_place s.numbers.items)) ((play w).next (board_at s.found n))
    stand-of = rw (next-parts w.game w.edges (board_at s.found n)) next-of.places

    module _ (o : Open) (number : o.number ≡ n) (begin : o.next ≡ next.first_place) (end : o.end ≡ next.first_place + next.parts) where
      pub opened-inside : IsInside s.found s.numbers.items o
      opened-inside = let i = next-of.inside in record {
        number = omega (arith, number, low);
        next = omega (arith, begin, end);
        end = omega (arith, end, i);
      }

      pub opened-visits : visits_by s.found s.numbers.items o
          ≡ Leaves (board_at s.found n) ∷ entered ((play w).next (board_at s.found n))
      opened-visits =
          let many : o.end - o.next ≡ next.parts = omega (arith, begin, end) in
          ap (λ z. Leaves (board_at s.found z) ∷ entered (boards_at s.found (numbers_left s.numbers.items o))) number
          ∙ ap (λ z. Leaves (board_at s.found n) ∷ entered (boards_at s.found (take z (drop o.next s.numbers.items)))) many
          ∙ ap (λ z. Leaves (board_at s.found n) ∷ entered (boards_at s.found (take next.parts (drop z s.numbers.items)))) begin
          ∙ ap (λ z. Leaves (board_at s.found n) ∷ entered z) (stand-boards s.found _ _ stand-of)

  module _ (visited : List Grid) (nexts : List Adjacency) (places ranks : List ℕ) (below : List Visit) (n : ℕ) (low : n < length s.found) where
    -- a part that was visited is entered
    pub skip : AreVisited w s visited nexts places ranks (below ++ (Enters (board_at s.found n) ∷ [])) → 0 < get_or ranks n 0
        → AreVisited w s visited nexts places ranks below
    skip x some =
        let p = board_at s.found n in
        let m = at-in visited _ p (rank-at s.found visited ranks x.ranked n p (board-at s.found n low) some) in
        let goes = enter_visited (play w) can.lawful visited below p x.on.walk m in
        record {
          on = record {
            walk = goes.walk;
            rest = goes.rest ∙ x.on.rest;
            next = x.on.next;
            fresh = open-front (play w) visited below (Enters p ∷ []) x.on.fresh;
          };
          ranked = x.ranked;
        }

    -- another part is entered
    pub enter : AreVisited w s visited nexts places ranks (below ++ (Enters (board_at s.found n) ∷ []))
        → ¬ In (board_at s.found n) visited
        → AreVisited w s visited nexts places ranks (below ++ (Leaves (board_at s.found n) ∷ entered ((play w).next (board_at s.found n))))
    enter x out =
        let p = board_at s.found n in
        let goes = enter_new (play w) can.lawful visited below p x.on.walk in
        let has = (known-back (play w) below (Enters p ∷ []) x.on.walk.known).0 in
        let same = append_assoc below (Leaves p ∷ []) (entered ((play w).next p)) in
        record {
          on = record {
            walk = rw (← same) goes.walk;
            rest = rw (← same) (goes.rest ∙ x.on.rest);
            next = x.on.next;
            fresh = rw (← same) (open-new (play w) can.lawful visited below p has out x.on.fresh);
          };
          ranked = x.ranked;
        }

    -- a part is left
    module _ (x : AreVisited w s visited nexts places ranks (below ++ (Leaves (board_at s.found n) ∷ []))) where
      pub next-visited : (q : Grid) → In q ((play w).next (board_at s.found n)) → In q visited
      next-visited q m =
          let p = board_at s.found n in
          let has = (known-back (play w) below (Leaves p ∷ []) x.on.walk.known).0 in
          ready-last (play w) visited p below x.on.walk.ready q
          (in_flat_mapped (play w).all q q ((play w).next p) m (own-all (play w) can.lawful q (can.lawful.has p q has m)))

      module _ (next : Adjacency) (e : next ≡ get_or s.next.items n next) (after : List Grid) (more : List Adjacency)
          (many new ns : List ℕ) (first size : ℕ) (is : after ≡ visited ++ (board_at s.found n ∷ []))
          (begin : first ≡ length places) (taken : ns ≡ take next.parts (drop next.first_place s.numbers.items))
          (put : many ≡ places ++ map (λ m. get_or ranks m 0 - 1) ns)
          (one : more ≡ nexts ++ ((record {
            lefts = next.lefts;
            first_count = next.first_count;
            moves = next.moves;
            first_place = first;
            parts = next.parts;
          }) ∷ []))
          (all : size ≡ length after) (are : new ≡ set ranks n size) where
        abbrev place : Adjacency
        place = record { lefts = next.lefts; first_count = next.first_count; moves = next.moves; first_place = first; parts = next.parts }

        is-left : IsNext w.game (parts w) s.counts.items many visited (board_at s.found n) place
        is-left =
            let p = board_at s.found n in
            let f : ℕ → ℕ = λ m. get_or ranks m 0 - 1 in
            let h = next-of n low next e in
            let stand : StandAt s.found ns ((play w).next p) = rw taken (stand-of n low next e) in
            let same = stand-size s.found ns ((play w).next p) stand in
            let a = length-map ns f in
            let b = ap length put ∙ length-append places (map f ns) in
            let i = h.inside in
            let c : length ns ≡ next.parts = ap length taken ∙ taken-size s.numbers.items next.first_place next.parts i in
            record {
              counted = h.counted;
              inside = omega (arith, a, b, c, begin);
              places = rw (ap (take next.parts) (ap (λ z. drop z many) begin ∙ ap (drop (length places)) put
                  ∙ drop-append_seam places (map f ns)) ∙ take_all next.parts (map f ns) (omega (arith, a, c)))
                  (rw (← (next-parts w.game w.edges p)) (ranks-stand s.found visited ranks x.ranked ns ((play w).next p) stand next-visited));
            }

        pub left : AreVisited w s after more many new below
        left =
            let p = board_at s.found n in
            let out = open-last (play w) visited below p x.on.fresh in
            let goes = leave (play w) can.lawful visited below p after x.on.walk (is ∙ sym (one_more-new boards visited p out)) in
            record {
              on = record {
                walk = goes.walk;
                rest = goes.rest ∙ x.on.rest;
                next = rw is (rw one (next-append w.game (parts w) s.counts.items many [] visited nexts p place
                    (rw put (rw (← (append-nil s.counts.items)) (nexts-more w.game (parts w) s.counts.items places [] _ [] visited nexts x.on.next)))
                    is-left));
                fresh = rw is (open-visited (play w) visited below p x.on.fresh);
              };
              ranked = ranks-more s.found visited ranks x.ranked found-once n low after new is (are ∙ ap (set ranks n) all);
            }

-- ---- how much is left to do

module _ (w : Walk) (s : Linked) (can : CanVisit w s) (p : Grid) (has : (play w).has p ≡ true) where
  pub less-new : work_left (play w) (Leaves p ∷ entered ((play w).next p)) < 2 * length ((play w).all p)
  less-new =
      let a = work-entered (play w) ((play w).next p) in
      let b = ap length (can.lawful.all p has) ∙ length-append (flat_map (play w).all ((play w).next p)) (p ∷ []) in
      omega (arith, a, b)

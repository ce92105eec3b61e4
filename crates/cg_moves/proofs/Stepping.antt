-- How a walk by numbers goes on from one that was entered to the next.
use Rattle.std.proofs.Common.{◌≡◌, ℕ, ◌+◌, ◌*◌, ◌<◌, ◌≤◌, List, [], ◌∷◌, ◌++◌, length, get_or, append_assoc, ap, sym, ◌∙◌, arith}
use Rattle.std.specs.Prelude.{All}
use Rattle.cg_moves.specs.declared.linked.Linked.{Linked}
use Rattle.cg_moves.specs.declared.walk.Open.{Open}
use Rattle.cg_moves.specs.declared.walk.Visited.{Visited}
use Rattle.cg_moves.specs.Visiting.{CanVisit, IsInside, IsStep, IsVisiting, board_at, visits_by, visits_of, work_left}
use Rattle.cg_moves.specs.Walking.{Walk, play}
use Rattle.cg_moves.specs.Walks.{Enters, Leaves, Visit, entered}
use Rattle.cg_moves.proofs.Links.{all-append}
use Rattle.cg_moves.proofs.Numbers.{all-front, all-last, all-one, visits-cons, visits_of-append, work-append}
use Rattle.cg_moves.proofs.TaskLemmas.{known-back}
use Rattle.cg_moves.proofs.Visits.{enter, less-new, skip}

module _ (w : Walk) (s : Linked) (can : CanVisit w s) (v : Visited) where
  -- ---- the next one after a part that was entered

  module _ (o later : Open) (low : o.next < o.end) (inside : IsInside s.found s.numbers.items o) (next : later.next ≡ o.next + 1)
      (end : later.end ≡ o.end) (same : later.number ≡ o.number) (n : ℕ) (is : n ≡ get_or s.numbers.items o.next 0) where
    pub number-inside : n < length s.found
    number-inside =
        let e = inside.end in
        let i = can.linked.inside o.next 0 (omega (arith, low, e)) in
        omega (arith, i, is)

    pub later-inside : IsInside s.found s.numbers.items later
    later-inside = let i = inside.number in let e = inside.end in record {
      number = omega (arith, i, same);
      next = omega (arith, low, next, end);
      end = omega (arith, e, end);
    }

    cons : visits_by s.found s.numbers.items o ≡ visits_by s.found s.numbers.items later ++ (Enters (board_at s.found n) ∷ [])
    cons = visits-cons s.numbers.items o later low inside.end next end n is s.found same

    one-more : (below : List Visit) → below ++ visits_by s.found s.numbers.items o
        ≡ (below ++ visits_by s.found s.numbers.items later) ++ (Enters (board_at s.found n) ∷ [])
    one-more below = ap (λ z. below ++ z) cons
        ∙ sym (append_assoc below (visits_by s.found s.numbers.items later) (Enters (board_at s.found n) ∷ []))

    pub work-later : work_left (play w) (visits_by s.found s.numbers.items later) + 2 * length ((play w).all (board_at s.found n))
        ≡ work_left (play w) (visits_by s.found s.numbers.items o)
    work-later =
        let a = ap (work_left (play w)) cons in
        let b = work-append (play w) (visits_by s.found s.numbers.items later) (Enters (board_at s.found n) ∷ []) in
        omega (arith, a, b)

    pub skipped : (below : List Visit) → IsVisiting w s v (below ++ visits_by s.found s.numbers.items o)
        → 0 < get_or v.ranks.items n 0 → IsVisiting w s v (below ++ visits_by s.found s.numbers.items later)
    skipped below x some =
        skip w s can v.boards.items v.next.items v.places.items v.ranks.items (below ++ visits_by s.found s.numbers.items later) n
        number-inside (rw (← (one-more below)) x) some

    pub stepped : (before : Open) (below : List Visit) → IsVisiting w s v (below ++ visits_by s.found s.numbers.items o)
        → get_or v.ranks.items n 0 ≡ 0
        → work_left (play w) (visits_by s.found s.numbers.items o) ≤ work_left (play w) (visits_by s.found s.numbers.items before)
        → IsStep w s v below before later n
    stepped before below x none less = record {
      number = number-inside;
      new = x.ranked.unseen n number-inside none;
      visiting = rw (← (one-more below)) x;
      less = let e = work-later in omega (arith, e, less);
    }

  -- ---- the parts that were entered

  module _ (rest : List Open) (last : Open) (all : List Open) (popped : all ≡ rest ++ (last ∷ [])) where
    split : visits_of s.found s.numbers.items all ≡ visits_of s.found s.numbers.items rest ++ visits_by s.found s.numbers.items last
    split = ap (visits_of s.found s.numbers.items) popped ∙ visits_of-append s.found s.numbers.items rest last

    pub popped-visits : (below : List Visit) → IsVisiting w s v (below ++ visits_of s.found s.numbers.items all)
        → IsVisiting w s v ((below ++ visits_of s.found s.numbers.items rest) ++ visits_by s.found s.numbers.items last)
    popped-visits below x =
        rw (append_assoc below (visits_of s.found s.numbers.items rest) (visits_by s.found s.numbers.items last)
        ∙ ap (λ z. below ++ z) (sym split)) x

    pub rest-inside : All (IsInside s.found s.numbers.items) all → All (IsInside s.found s.numbers.items) rest
    rest-inside h = all-front (IsInside s.found s.numbers.items) rest (last ∷ []) (rw (← popped) h)

    pub last-inside : All (IsInside s.found s.numbers.items) all → IsInside s.found s.numbers.items last
    last-inside h = all-last (IsInside s.found s.numbers.items) rest last (rw (← popped) h)

    pub less-none : work_left (play w) (visits_of s.found s.numbers.items rest) < work_left (play w) (visits_of s.found s.numbers.items all)
    less-none =
        let a = ap (work_left (play w)) split in
        let b = work-append (play w) (visits_of s.found s.numbers.items rest) (visits_by s.found s.numbers.items last) in
        omega (arith, a, b)

    module _ (later o : Open) (mid after : List Open) (put : mid ≡ rest ++ (later ∷ [])) (more : after ≡ mid ++ (o ∷ [])) (n : ℕ)
        (is : visits_by s.found s.numbers.items o ≡ Leaves (board_at s.found n) ∷ entered ((play w).next (board_at s.found n))) where
      joined : visits_of s.found s.numbers.items after ≡ (visits_of s.found s.numbers.items rest
          ++ visits_by s.found s.numbers.items later) ++ visits_by s.found s.numbers.items o
      joined = ap (visits_of s.found s.numbers.items) more ∙ visits_of-append s.found s.numbers.items mid o
          ∙ ap (λ z. visits_of s.found s.numbers.items z ++ visits_by s.found s.numbers.items o) put
          ∙ ap (λ z. z ++ visits_by s.found s.numbers.items o) (visits_of-append s.found s.numbers.items rest later)

      pub gone-on : (below : List Visit) → IsStep w s v (below ++ visits_of s.found s.numbers.items rest) last later n
          → IsVisiting w s v (below ++ visits_of s.found s.numbers.items after)
      gone-on below step =
          let r = visits_of s.found s.numbers.items rest in
          let l = visits_by s.found s.numbers.items later in
          let e = visits_by s.found s.numbers.items o in
          let x = enter w s can v.boards.items v.next.items v.places.items v.ranks.items ((below ++ r) ++ l) n step.number step.visiting
          step.new in
          rw (ap (λ z. below ++ z) (joined ∙ append_assoc r l e) ∙ sym (append_assoc below r (l ++ e))
          ∙ sym (append_assoc (below ++ r) l e) ∙ ap (λ z. ((below ++ r) ++ l) ++ z) is) x

      pub inside-more : All (IsInside s.found s.numbers.items) all → IsInside s.found s.numbers.items later
          → IsInside s.found s.numbers.items o → All (IsInside s.found s.numbers.items) after
      inside-more h l e =
          let P = IsInside s.found s.numbers.items in
          rw more (rw put (all-append P (rest ++ (later ∷ [])) (o ∷ [])
          (all-append P rest (later ∷ []) (rest-inside h) (all-one P later l)) (all-one P o e)))

      pub less-some : (below : List Visit) → IsStep w s v (below ++ visits_of s.found s.numbers.items rest) last later n
          → work_left (play w) (visits_of s.found s.numbers.items after) < work_left (play w) (visits_of s.found s.numbers.items all)
      less-some below step =
          let r = visits_of s.found s.numbers.items rest in
          let l = visits_by s.found s.numbers.items later in
          let e = visits_by s.found s.numbers.items o in
          let p = board_at s.found n in
          let has = (known-back (play w) ((below ++ r) ++ l) (Enters p ∷ []) step.visiting.on.walk.known).0 in
          let a = ap (work_left (play w)) split in
          let b = work-append (play w) r (visits_by s.found s.numbers.items last) in
          let c = ap (work_left (play w)) joined in
          let d = work-append (play w) (r ++ l) e in
          let f = work-append (play w) r l in
          let g = ap (work_left (play w)) is in
          let k = less-new w s can p has in
          let less = step.less in
          omega (arith, a, b, c, d, f, g, k, less)

-- What each task of a walk leaves to do.
use Rattle.std.proofs.Common.{◌≡◌, true, inl, inr, List, [], ◌∷◌, ◌++◌, append_assoc, ap, sym, ◌∙◌}
use Rattle.std.specs.List.{flat_map}
use Rattle.std.proofs.lemmas.List.{append-nil}
use Rattle.cg_moves.specs.Grid.{Grid}
use Rattle.cg_moves.specs.Kept.{kept, one_more}
use Rattle.cg_moves.specs.Plays.{IsPlay, Play}
use Rattle.cg_moves.specs.Rules.{In}
use Rattle.cg_moves.specs.Walks.{GoesOn, IsWalk, Visit, Enters, Leaves, boards_left, entered}
use Rattle.cg_moves.proofs.TaskLemmas.{boards_left-append, boards_left-entered, known-append, known-back}
use Rattle.cg_moves.proofs.TaskLemmas.{known-entered, known-front, ready-change, ready-entered, ready-last}
use Rattle.cg_form.proofs.Firsts.{extended-append, extended-there, in-append, one_more-among, one_more-has, one_more-keeps}
use Rattle.cg_moves.proofs.Same.{boards}
use Rattle.cg_moves.proofs.Members.{carry, in_one}

module _ (r : Play) where
  module _ (lawful : IsPlay r) (visited : List Grid) (tasks : List Visit) (p : Grid) where
    -- a board that was visited is entered
    pub enter_visited : IsWalk r visited (tasks ++ (Enters p ∷ [])) → In p visited → GoesOn r visited visited (tasks ++ (Enters p ∷ [])) tasks
    enter_visited w m =
        record {
          walk = record {
            known = known-front r tasks (Enters p ∷ []) w.known;
            closed = w.closed;
            ready = rw (← (append-nil tasks)) (ready-change r visited visited (Enters p) tasks [] (λ q k. k)
                (λ q k. inl (w.closed p m q k)) w.ready tt);
          };
          rest = sym (ap (λ z. kept visited z) (boards_left-append r tasks (Enters p ∷ []))
              ∙ extended-append boards visited (r.all p) (boards_left r tasks)
              ∙ ap (λ z. kept z (boards_left r tasks)) (extended-there boards visited (r.all p) (λ k n. w.closed p m k n)));
        }

  module _ (lawful : IsPlay r) (visited : List Grid) (tasks : List Visit) (e : Grid) where
    entered_tasks : List Visit
    entered_tasks = (Leaves e ∷ []) ++ entered (r.next e)

    -- the boards that are left are those of the board
    entered_left : r.has e ≡ true → boards_left r entered_tasks ≡ r.all e
    unfolding entered_tasks
    entered_left has = ap (λ z. z ++ (e ∷ [])) (boards_left-entered r (r.next e)) ∙ sym (lawful.all e has)

    entered_rest : r.has e ≡ true
        → kept visited (boards_left r (tasks ++ entered_tasks)) ≡ kept visited (boards_left r (tasks ++ (Enters e ∷ [])))
    entered_rest has = ap (kept visited) (boards_left-append r tasks entered_tasks
        ∙ ap (λ z. z ++ boards_left r tasks) (entered_left has) ∙ sym (boards_left-append r tasks (Enters e ∷ [])))

    -- another board is entered
    pub enter_new : IsWalk r visited (tasks ++ (Enters e ∷ []))
        → GoesOn r visited visited (tasks ++ (Enters e ∷ [])) ((tasks ++ (Leaves e ∷ [])) ++ entered (r.next e))
    unfolding entered_tasks
    enter_new w =
        let p = e in
        let known = known-back r tasks (Enters p ∷ []) w.known in
        rw (append_assoc tasks (Leaves e ∷ []) (entered (r.next p))) (record {
          walk = record {
            known = known-append r tasks entered_tasks (known-front r tasks (Enters p ∷ []) w.known) (
              known.0,
              known-entered r (r.next p) (λ q m. lawful.has p q known.0 m),
            );
            closed = w.closed;
            ready = ready-change r visited visited (Enters p) tasks entered_tasks (λ q m. m)
                (λ q m. inr (carry q (r.all p) (boards_left r entered_tasks) (sym (entered_left known.0)) m)) w.ready (
                  λ q m. inr (carry q (flat_map r.all (r.next p)) (boards_left r (entered (r.next p)))
                      (sym (boards_left-entered r (r.next p))) m),
                  ready-entered r visited (r.next p),
                );
          };
          rest = entered_rest known.0;
        })

    -- a board is left
    pub leave : (more : List Grid) → IsWalk r visited (tasks ++ (Leaves e ∷ [])) → more ≡ one_more visited e
        → GoesOn r visited more (tasks ++ (Leaves e ∷ [])) tasks
    leave more w is =
        let p = e in
        let known = known-back r tasks (Leaves e ∷ []) w.known in
        let has_more : (q : Grid) → In q visited → In q more = λ q m.
        carry q (one_more visited p) more (sym is) (one_more-keeps boards visited p q m) in
        let own : In p more = carry p (one_more visited p) more (sym is) (one_more-has boards visited p) in
        record {
          walk = record {
            known = known-front r tasks (Leaves e ∷ []) w.known;
            closed = λ q m k n. elim (one_more-among boards visited p q (carry q more (one_more visited p) is m)) [
              | inl there ↦ has_more k (w.closed q there k n)
              | inr same ↦ (elim (in-append k (flat_map r.all (r.next p)) (p ∷ []) (carry k (r.all p)
                  (flat_map r.all (r.next p) ++ (p ∷ [])) (lawful.all p known.0) (rw (← same) n))) [
                    | inl o ↦ has_more k (ready-last r visited e tasks w.ready k o)
                    | inr o ↦ rw (in_one k p o) own
                  ])
            ];
            ready = rw (← (append-nil tasks)) (ready-change r visited more (Leaves e) tasks [] has_more (λ q m. inl (rw (in_one q p m) own)) w.ready tt);
          };
          rest = ap (λ z. kept z (boards_left r tasks)) is ∙ sym (ap (λ z. kept visited z) (boards_left-append r tasks (Leaves e ∷ [])));
        }

-- The tasks of a walk.
use Rattle.std.proofs.Common.{◌≡◌, refl, true, ◌⊎◌, inl, inr, List, [], ◌∷◌, ◌++◌, append_assoc, ap, sym, ◌∙◌}
use Rattle.std.specs.List.{flat_map}
use Rattle.std.proofs.lemmas.List.{append-nil}
use Rattle.cg_moves.specs.Grid.{Grid}
use Rattle.cg_moves.specs.Plays.{Play}
use Rattle.cg_moves.specs.Rules.{In}
use Rattle.cg_moves.specs.Walks.{AreKnown, AreReady, Visit, Enters, Leaves, boards_left, entered, visit_boards}
use Rattle.cg_form.proofs.Firsts.{in-append, in-append_left, in-append_right}
use Rattle.cg_moves.proofs.Members.{carry}

module _ (r : Play) where
  -- ---- what is left to see

  pub boards_left-append : (ts us : List Visit) → boards_left r (ts ++ us) ≡ boards_left r us ++ boards_left r ts
  boards_left-append [] us = sym (append-nil (boards_left r us))
  boards_left-append (t ∷ ts) us = ap (λ z. z ++ visit_boards r t) (boards_left-append ts us)
      ∙ append_assoc (boards_left r us) (boards_left r ts) (visit_boards r t)

  pub boards_left-entered : (ps : List Grid) → boards_left r (entered ps) ≡ flat_map r.all ps
  boards_left-entered [] = refl
  boards_left-entered (p ∷ ps) = boards_left-append (entered ps) (Enters p ∷ []) ∙ ap (λ z. r.all p ++ z) (boards_left-entered ps)

  -- ---- tasks that are ready

  pub ready-entered : (visited ps : List Grid) → AreReady r visited (entered ps)
  ready-entered visited ps = rw (← (append-nil (entered ps))) (go ps [] tt)
    where
      go : (qs : List Grid) (ts : List Visit) → AreReady r visited ts → AreReady r visited (entered qs ++ ts)
      go [] ts h = h
      go (q ∷ qs) ts h =
          rw (append_assoc (entered qs) (Enters q ∷ []) ts) (go qs (Enters q ∷ ts) (tt, h))

  -- the last task is replaced by others, and more was visited
  pub ready-change : (visited wider : List Grid) (t : Visit) (ts us : List Visit) → ((q : Grid) → In q visited → In q wider)
      → ((q : Grid) → In q (visit_boards r t) → In q wider ⊎ In q (boards_left r us))
      → AreReady r visited (ts ++ (t ∷ [])) → AreReady r wider us → AreReady r wider (ts ++ us)
  ready-change visited wider t [] us sub cover h k = k
  ready-change visited wider t (Enters p ∷ ts) us sub cover h k = (tt, ready-change visited wider t ts us sub cover h.1 k)
  ready-change visited wider t (Leaves e ∷ ts) us sub cover h k = (
    λ q m. elim (h.0 q m) [
      | inl there ↦ inl (sub q there)
      | inr ahead ↦ elim (in-append q (visit_boards r t) (boards_left r ts) (carry q (boards_left r (ts ++ (t ∷ [])))
          (visit_boards r t ++ boards_left r ts) (boards_left-append ts (t ∷ [])) ahead)) [
            | inl n ↦ elim (cover q n) [
              | inl there ↦ inl there
              | inr o ↦ inr (carry q (boards_left r us ++ boards_left r ts) (boards_left r (ts ++ us)) (sym
                  (boards_left-append ts us)) (in-append_left q (boards_left r us) (boards_left r ts) o))
            ]
            | inr n ↦ inr (carry q (boards_left r us ++ boards_left r ts) (boards_left r (ts ++ us)) (sym
                (boards_left-append ts us)) (in-append_right q (boards_left r us) (boards_left r ts) n))
          ]
    ],
    ready-change visited wider t ts us sub cover h.1 k,
  )

  pub ready-last : (visited : List Grid) (e : Grid) (ts : List Visit) → AreReady r visited (ts ++ (Leaves e ∷ [])) → (q : Grid)
      → In q (flat_map r.all (r.next e)) → In q visited
  ready-last visited e [] h q m = elim (h.0 q m) [ inl there ↦ there | inr nothing ↦ absurd nothing ]
  ready-last visited e (t ∷ ts) h q m = ready-last visited e ts h.1 q m

  -- ---- tasks whose boards are known

  pub known-front : (ts us : List Visit) → AreKnown r (ts ++ us) → AreKnown r ts
  known-front [] us h = tt
  known-front (t ∷ ts) us h = (h.0, known-front ts us h.1)

  pub known-back : (ts us : List Visit) → AreKnown r (ts ++ us) → AreKnown r us
  known-back [] us h = h
  known-back (t ∷ ts) us h = known-back ts us h.1

  pub known-append : (ts us : List Visit) → AreKnown r ts → AreKnown r us → AreKnown r (ts ++ us)
  known-append [] us h k = k
  known-append (t ∷ ts) us h k = (h.0, known-append ts us h.1 k)

  pub known-entered : (ps : List Grid) → ((p : Grid) → In p ps → r.has p ≡ true) → AreKnown r (entered ps)
  known-entered [] h = tt
  known-entered (p ∷ ps) h =
      known-append (entered ps) (Enters p ∷ []) (known-entered ps (λ q m. h q (inr m))) (h p (inl refl), tt)

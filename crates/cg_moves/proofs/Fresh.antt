-- Boards that are to be left: above each stand tasks of boards with a lower measure, and it wasn't visited.
use Rattle.std.proofs.Common.{◌≡◌, refl, true, inl, inr, List, [], ◌∷◌, ◌++◌, append_assoc, ap, arith}
use Rattle.std.proofs.lemmas.List.{append-nil}
use Rattle.cg_moves.specs.Grid.{Grid}
use Rattle.cg_moves.specs.Plays.{IsPlay, Play}
use Rattle.cg_moves.specs.Rules.{In}
use Rattle.cg_moves.specs.Walks.{AreOpen, Enters, Leaves, Visit, entered, visit_board}
use Rattle.cg_form.proofs.Firsts.{in-append, in-append_left, in-append_right}
use Rattle.cg_moves.proofs.Members.{in_one}

module _ (r : Play) where
  pub open-front : (visited : List Grid) (ts us : List Visit) → AreOpen r visited (ts ++ us) → AreOpen r visited ts
  open-front visited [] us h = tt
  open-front visited (Enters p ∷ ts) us h = open-front visited ts us h
  open-front visited (Leaves e ∷ ts) us h = (h.0, (λ t m. h.1 t (in-append_left t ts us m)), open-front visited ts us h.2)

  pub open-last : (visited : List Grid) (ts : List Visit) (e : Grid) → AreOpen r visited (ts ++ (Leaves e ∷ [])) → ¬ In e visited
  open-last visited [] e h = h.0
  open-last visited (Enters q ∷ ts) e h = open-last visited ts e h
  open-last visited (Leaves f ∷ ts) e h = open-last visited ts e h.2

  open-append : (visited : List Grid) (ps : List Grid) (ts : List Visit) → AreOpen r visited ts → AreOpen r visited (entered ps ++ ts)
  open-append visited [] ts h = h
  open-append visited (p ∷ ps) ts h =
      rw (append_assoc (entered ps) (Enters p ∷ []) ts) (open-append visited ps (Enters p ∷ ts) h)

  pub open-entered : (visited ps : List Grid) → AreOpen r visited (entered ps)
  open-entered visited ps = rw (← (append-nil (entered ps))) (open-append visited ps [] tt)

  pub entered-among : (ps : List Grid) (t : Visit) → In t (entered ps) → In (visit_board t) ps
  entered-among [] t m = absurd m
  entered-among (p ∷ ps) t m = elim (in-append t (entered ps) (Enters p ∷ []) m) [
    | inl o ↦ inr (entered-among ps t o)
    | inr o ↦ inl (ap visit_board (in_one t (Enters p) o))
  ]

  -- a new board is entered
  pub open-new : IsPlay r → (visited : List Grid) (ts : List Visit) (e : Grid) → r.has e ≡ true → ¬ In e visited
      → AreOpen r visited (ts ++ (Enters e ∷ [])) → AreOpen r visited ((ts ++ (Leaves e ∷ [])) ++ entered (r.next e))
  open-new lawful visited [] e has out h = (
    out,
    (λ t m. lawful.lowers e (visit_board t) has (entered-among (r.next e) t m)),
    open-entered visited (r.next e),
  )
  open-new lawful visited (Enters q ∷ ts) e has out h = open-new lawful visited ts e has out h
  open-new lawful visited (Leaves f ∷ ts) e has out h = (
    h.0,
    (λ t m. (let p = e in
        let low = h.1 (Enters p) (in-append_right (Enters p) ts (Enters p ∷ []) (inl refl)) in
        elim (in-append t (ts ++ (Leaves e ∷ [])) (entered (r.next p)) m) [
          | inl o ↦ elim (in-append t ts (Leaves e ∷ []) o) [
            | inl there ↦ h.1 t (in-append_left t ts (Enters p ∷ []) there)
            | inr last ↦ (let same = ap (λ z. r.measure (visit_board z)) (in_one t (Leaves e) last) in omega (arith, low, same))
          ]
          | inr o ↦ (let lower = lawful.lowers p (visit_board t) has (entered-among (r.next p) t o) in omega (arith, low, lower))
        ])),
    open-new lawful visited ts e has out h.2,
  )

  -- the last board is visited
  pub open-visited : (visited : List Grid) (ts : List Visit) (e : Grid) → AreOpen r visited (ts ++ (Leaves e ∷ []))
      → AreOpen r (visited ++ (e ∷ [])) ts
  open-visited visited [] e h = tt
  open-visited visited (Enters q ∷ ts) e h = open-visited visited ts e h
  open-visited visited (Leaves f ∷ ts) e h = (
    λ m. elim (in-append f visited (e ∷ []) m) [
      | inl there ↦ h.0 there
      | inr last ↦ (let low = h.1 (Leaves e) (in-append_right (Leaves e) ts (Leaves e ∷ []) (inl refl)) in
          let same = ap r.measure (in_one f e last) in absurd (omega (arith, low, same)))
    ],
    (λ t m. h.1 t (in-append_left t ts (Leaves e ∷ []) m)),
    open-visited visited ts e h.2,
  )

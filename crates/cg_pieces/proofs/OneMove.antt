-- The pieces of a board after a move in one set.
use Rattle.std.proofs.lemmas.Bool.Decides.{nat_tests}
use Rattle.std.proofs.Common.{◌≡◌, refl, ℕ, ◌⊎◌, inl, inr, true, IsTrue, List, [], ◌∷◌, ◌++◌, map, ap, sym, ◌∙◌, subst, arith}
use Rattle.cg_dyadic.proofs.Truth.{true-or-not}
use Rattle.cg_moves.specs.Grid.{Grid}
use Rattle.cg_moves.specs.Reordered.{IsReordered}
use Rattle.cg_moves.specs.Rules.{In}
use Rattle.cg_form.proofs.Firsts.{in-append, in-append_left, in-append_right}
use Rattle.cg_moves.proofs.Members.{in-map, in_mapped, map-agree}
use Rattle.cg_pieces.specs.Cells.{CellGame, Distinct, First, IsCellGame, Joined, OneSet, pieces_of}
use Rattle.cg_pieces.specs.Cells.Linked.{here}
use Rattle.cg_pieces.proofs.Orders.{distinct-append, distinct-apart, distinct-left, distinct-map, distinct-middle, distinct-right, reordered-map, same-members}
use Rattle.cg_pieces.proofs.Sets.{apart-first, apart-piece, first-apart, first-placed, joined-sym, place-same, placed-first, placed-piece}
use Rattle.std.proofs.lemmas.List.{map-append}
use Rattle.cg_moves.proofs.Middles.{in_middle, middle-in}

map-twice : {Y : Type 0} (f : ℕ → Y) (h : ℕ → Y) (back : ℕ → ℕ) (ks : List ℕ)
    → ((m : ℕ) → In m ks → f (back m) ≡ h m) → map f (map back ks) ≡ map h ks
map-twice f h back [] agree = refl
map-twice f h back (k ∷ ks) agree = grind (arith, nat_tests, map-twice f h back ks)

module _ (g : CellGame) (laws : IsCellGame g) (p : Grid) (before : List ℕ) (s : ℕ) (behind : List ℕ) (after small : Grid)
    (cut : g.firsts p ≡ before ++ (s ∷ behind)) (o : OneSet g p s after small) where
  -- ---- the cells of the piece as cells of the board

  found : (m : ℕ) → IsTrue (g.is_open small m) ⊎ (¬ IsTrue (g.is_open small m)) → ℕ
  found m (inl t) = (o.placed m t).0
  found m (inr f) = 0

  abbrev back : ℕ → ℕ
  back m = found m (true-or-not (g.is_open small m))

  record Found (m : ℕ) (k : ℕ) : Type 0 where
    joined : Joined g p s k
    is : m ≡ g.place p s k

  found-is : (m : ℕ) (d : IsTrue (g.is_open small m) ⊎ (¬ IsTrue (g.is_open small m))) → g.is_open small m ≡ true → Found m (found m d)
  unfolding found
  found-is m (inl t) m_open = record { joined = (o.placed m t).1; is = (o.placed m t).2 }
  found-is m (inr f) m_open = absurd (f m_open)

  back-is : (m : ℕ) → In m (g.firsts small) → Found m (back m)
  back-is m i = found-is m (true-or-not (g.is_open small m)) (((laws.first small m).0 i).is_open)

  -- ---- the first cells

  all : Distinct g (before ++ (s ∷ behind))
  all = subst (Distinct g) cut (laws.distinct p)

  is-first : (k : ℕ) → In k (before ++ (s ∷ behind)) → First g p k
  is-first k i = (laws.first p k).0 (rw cut i)

  -- another first cell is in another set
  others-apart : (k : ℕ) → In k (before ++ behind) → ¬ Joined g p s k
  others-apart k i j =
      let first_k = is-first k (in_middle k s before behind i) in
      let first_s = is-first s (in-append_right s before (s ∷ behind) (inl refl)) in
      let a = first_s.least k j in
      let b = first_k.least s (joined-sym g laws p s k j) in
      let e : k ≡ s = omega arith in
      (distinct-middle g before behind s all).0 (rw (← e) i)

  abbrev inner : List ℕ
  inner = map back (g.firsts small)

  abbrev whole : List ℕ
  whole = before ++ (inner ++ behind)

  inner-joined : (k : ℕ) → In k inner → Joined g p s k
  inner-joined k i =
      let (m, j, e) = in-map back k (g.firsts small) i in
      subst (Joined g p s) (sym e) (back-is m j).joined

  whole-distinct : Distinct g whole
  whole-distinct =
      let rest = (distinct-middle g before behind s all).1 in
      let inner_distinct = distinct-map g back (g.firsts small) (laws.distinct small)
      (λ k l i j e. (back-is k i).is ∙ ap (g.place p s) e ∙ sym (back-is l j).is) in
      distinct-append g before (inner ++ behind) (distinct-left g before behind rest)
      (distinct-append g inner behind inner_distinct (distinct-right g before behind rest)
      (λ k i j. others-apart k (in-append_right k before behind j) (inner-joined k i)))
      (λ k i j. elim (in-append k inner behind j) [
        | inl h ↦ others-apart k (in-append_left k before behind i) (inner-joined k h)
        | inr h ↦ distinct-apart g before behind rest k i h
      ])

  forth : (k : ℕ) → In k (g.firsts after) → In k whole
  forth k i =
      let f = (laws.first after k).0 i in
      elim (laws.decided p s k) [
        | inl j ↦
            let there : In (g.place p s k) (g.firsts small) =
            (laws.first small (g.place p s k)).1 (first-placed g laws p s after small o k j f) in
            let w = back-is (g.place p s k) there in
            let e : back (g.place p s k) ≡ k = sym (place-same g laws p s after small o k _ j w.joined w.is) in
            in-append_right k before (inner ++ behind)
            (in-append_left k inner behind (rw (← e) (in_mapped back (g.place p s k) (g.firsts small) there)))
        | inr out ↦
            let there : In k (before ++ (s ∷ behind)) =
            rw (← cut) ((laws.first p k).1 (first-apart g laws p s after small o k out f)) in
            elim (middle-in k s before behind there) [
              | inl e ↦ absurd (out (here k (sym e)))
              | inr h ↦ elim (in-append k before behind h) [
                | inl a ↦ in-append_left k before (inner ++ behind) a
                | inr b ↦ in-append_right k before (inner ++ behind) (in-append_right k inner behind b)
              ]
            ]
      ]

  outer : (k : ℕ) → In k (before ++ behind) → In k (g.firsts after)
  outer k i = (laws.first after k).1 (apart-first g laws p s after small o k (others-apart k i) (is-first k (in_middle k s before behind i)))

  back_to : (k : ℕ) → In k whole → In k (g.firsts after)
  back_to k i = elim (in-append k before (inner ++ behind) i) [
    | inl a ↦ outer k (in-append_left k before behind a)
    | inr h ↦ elim (in-append k inner behind h) [
      | inr b ↦ outer k (in-append_right k before behind b)
      | inl b ↦
          let (m, j, e) = in-map back k (g.firsts small) b in
          let w = back-is m j in
          let f : First g after (back m) =
          placed-first g laws p s after small o (back m) w.joined (subst (First g small) w.is ((laws.first small m).0 j)) in
          (laws.first after k).1 (subst (First g after) (sym e) f)
    ]
  ]

  -- ---- their boards

  same-boards : map (g.piece after) whole ≡ map (g.piece p) before ++ (pieces_of g small ++ map (g.piece p) behind)
  same-boards =
      let a : map (g.piece after) before ≡ map (g.piece p) before = map-agree (g.piece after) (g.piece p) before
      (λ k i. apart-piece g laws p s after small o k (others-apart k (in-append_left k before behind i))) in
      let b : map (g.piece after) behind ≡ map (g.piece p) behind = map-agree (g.piece after) (g.piece p) behind
      (λ k i. apart-piece g laws p s after small o k (others-apart k (in-append_right k before behind i))) in
      let c : map (g.piece after) inner ≡ pieces_of g small = map-twice (g.piece after) (g.piece small) back (g.firsts small)
      (λ m i. let w = back-is m i in sym (placed-piece g laws p s after small o (back m) w.joined)
      ∙ ap (g.piece small) (sym w.is)) in
      map-append (g.piece after) before (inner ++ behind)
      ∙ ap (λ z. z ++ map (g.piece after) (inner ++ behind)) a
      ∙ ap (λ z. map (g.piece p) before ++ z) (map-append (g.piece after) inner behind
      ∙ ap (λ z. z ++ map (g.piece after) behind) c ∙ ap (λ z. pieces_of g small ++ z) b)

  pub pieces-after : IsReordered (pieces_of g after) (map (g.piece p) before ++ (pieces_of g small ++ map (g.piece p) behind))
  pieces-after =
      rw (← same-boards)
      (reordered-map (g.piece after) (g.firsts after) whole
      (same-members g (g.firsts after) whole (laws.distinct after) whole-distinct forth back_to))

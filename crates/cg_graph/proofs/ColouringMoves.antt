-- The moves of Col and Snort are the colourings that the rules allow.
use Rattle.std.proofs.Common.{◌≡◌, ◌≢◌, inl, inr, refl, ℕ, ◌<◌, ◌≤◌, ◌==◌, ◌&&◌, ◌||◌, Bool, true, false, not, List, [], ◌∷◌, length, ap, sym, arith}
use Rattle.std.specs.Prelude.{slice_index}
use Rattle.std.specs.List.{list_any}
use Rattle.std.proofs.lemmas.Bool.{eqb-true, eq-eqb}
use Rattle.std.proofs.lemmas.List.{get_or_past}
use Rattle.std.proofs.lemmas.List.Folds.{list_any_none}
use Rattle.cg_dyadic.proofs.Truth.{and-both, and-split, differ, false-from}
use Rattle.cg_moves.specs.declared.player.Player.{Player}
use Rattle.cg_moves.specs.Connected.{Edge}
use Rattle.cg_moves.specs.Rising.{counted}
use Rattle.cg_moves.specs.Rules.{In}
use Rattle.cg_moves.proofs.ConnectedLemmas.{or-cases, or-first, or-second}
use Rattle.cg_moves.proofs.Counted.{counted-below, in_counted}
use Rattle.cg_moves.proofs.Members.{all_from, in_flat_mapped}
use Rattle.cg_moves.proofs.RisingLemmas.{in-rising}
use Rattle.cg_graph.specs.Colouring.{AreNeighbours, IsColouringMove, are_adjacent, colourings_at, colourings_of, forbidden, free, may_colour}
use Rattle.cg_graph.proofs.ColouringLaw.{is_colouring}
use Rattle.cg_graph.proofs.Adjacent.{any_in}

-- ---- neighbours

abbrev is_edge : Edge → ℕ → ℕ → Bool
is_edge e k l = ((e.one == k) && (e.other == l)) || ((e.one == l) && (e.other == k))

this_edge : (e : Edge) (k l : ℕ) → ((e.one == k) && (e.other == l)) ≡ true
    → (let f : Edge = record { one = k; other = l } in f) ≡ e
this_edge e k l h =
    let both = and-split (e.one == k) (e.other == l) h in
    let p = eqb-true e.one k both.0 in
    let q = eqb-true e.other l both.1 in
    let same : e ≡ (let f : Edge = record { one = k; other = l } in f) = λ i. record { one = p i; other = q i } in
    sym same

edge_this : (e : Edge) (k l : ℕ) → (let f : Edge = record { one = k; other = l } in f) ≡ e
    → ((e.one == k) && (e.other == l)) ≡ true
edge_this e k l h =
    and-both (e.one == k) (e.other == l) (eq-eqb e.one k (sym (ap (λ (z : Edge). z.one) h)))
    (eq-eqb e.other l (sym (ap (λ (z : Edge). z.other) h)))

adjacent_are : (edges : List Edge) (k l : ℕ) → are_adjacent edges k l ≡ true → AreNeighbours edges k l
adjacent_are [] k l h = absurd (cc)
adjacent_are (e ∷ edges) k l h = elim (or-cases (is_edge e k l) (are_adjacent edges k l) h) [
  | inl t ↦ elim (or-cases ((e.one == k) && (e.other == l)) ((e.one == l) && (e.other == k)) t) [
    | inl u ↦ inl (inl (this_edge e k l u))
    | inr u ↦ inr (inl (this_edge e l k u))
  ]
  | inr t ↦ elim (adjacent_are edges k l t) [ inl m ↦ inl (inr m) | inr m ↦ inr (inr m) ]
]

are_adjacent_so : (edges : List Edge) (k l : ℕ) → AreNeighbours edges k l → are_adjacent edges k l ≡ true
are_adjacent_so [] k l (inl m) = absurd m
are_adjacent_so [] k l (inr m) = absurd m
are_adjacent_so (e ∷ edges) k l (inl (inl h)) =
    or-first (is_edge e k l) (are_adjacent edges k l)
    (or-first ((e.one == k) && (e.other == l)) ((e.one == l) && (e.other == k)) (edge_this e k l h))
are_adjacent_so (e ∷ edges) k l (inr (inl h)) =
    or-first (is_edge e k l) (are_adjacent edges k l)
    (or-second ((e.one == k) && (e.other == l)) ((e.one == l) && (e.other == k)) (edge_this e l k h))
are_adjacent_so (e ∷ edges) k l (inl (inr m)) =
    or-second (is_edge e k l) (are_adjacent edges k l) (are_adjacent_so edges k l (inl m))
are_adjacent_so (e ∷ edges) k l (inr (inr m)) =
    or-second (is_edge e k l) (are_adjacent edges k l) (are_adjacent_so edges k l (inr m))

-- ---- moves

module _ (snort : Bool) (edges : List Edge) (player : Player) (cells : List ℕ) where
  -- the vertex l is a neighbour of k with the colour that none may have
  abbrev is_bar : ℕ → ℕ → Bool
  is_bar k l = are_adjacent edges k l && (slice_index cells l == forbidden snort player)

  not-true : (b : Bool) → not b ≡ true → b ≢ true
  not-true true h = λ t. differ (not true) h refl
  not-true false h = λ t. cc

  pub colouring_is : (after : List ℕ) → In after (colourings_of snort edges player cells)
      → IsColouringMove snort edges player cells after
  colouring_is after m =
      let (k, may, e) = is_colouring snort edges player cells after m in
      let both = and-split (slice_index cells k == free) (not (list_any (is_bar k) (counted 0 (length cells)))) may in
      let was : slice_index cells k ≡ free = eqb-true (slice_index cells k) free both.0 in
      record {
        vertex = k;
        within = let past : (length cells ≤ k) → ⊥ = λ h. (let z = get_or_past cells k 0 h in omega (arith, z, was)) in
            omega (arith, past);
        was_free = was;
        allowed = λ l below near same.
            not-true (list_any (is_bar k) (counted 0 (length cells))) both.1
            (any_in (is_bar k) (counted 0 (length cells)) l (in_counted 0 (length cells) l (omega arith) (omega arith))
            (and-both (are_adjacent edges k l) (slice_index cells l == forbidden snort player)
            (are_adjacent_so edges k l near) (eq-eqb (slice_index cells l) (forbidden snort player) same)));
        written = e;
      }

  allowed-may : (k : ℕ) → slice_index cells k ≡ free
      → ((l : ℕ) → l < length cells → AreNeighbours edges k l → slice_index cells l ≢ forbidden snort player)
      → may_colour snort edges player cells k ≡ true
  allowed-may k was allowed =
      let none : list_any (is_bar k) (counted 0 (length cells)) ≡ false = list_any_none (is_bar k) (counted 0 (length cells))
      (all_from (λ l. is_bar k l ≡ false) (counted 0 (length cells)) (λ l m. false-from (is_bar k l) (λ t.
      let both = and-split (are_adjacent edges k l) (slice_index cells l == forbidden snort player) t in
      let below = counted-below 0 (length cells) l m in
      allowed l (omega (arith, below)) (adjacent_are edges k l both.0)
      (eqb-true (slice_index cells l) (forbidden snort player) both.1)))) in
      and-both (slice_index cells k == free) (not (list_any (is_bar k) (counted 0 (length cells))))
      (eq-eqb (slice_index cells k) free was) (ap not none)

  pub is_colouring_so : (after : List ℕ) → IsColouringMove snort edges player cells after
      → In after (colourings_of snort edges player cells)
  is_colouring_so after a =
      let k = a.vertex in
      let may = allowed-may k a.was_free a.allowed in
      let within = a.within in
      in-rising _ after
      (in_flat_mapped (colourings_at snort edges player cells) after k (counted 0 (length cells))
      (in_counted 0 (length cells) k (omega arith) (omega arith)) (rw may (inl a.written)))

-- What reading two texts says of them as a coloured graph.
use Rattle.std.proofs.Common.{◌≡◌, ◌≢◌, ◌⊎◌, inl, inr, refl, ℕ, suc, ◌+◌, ◌-◌, ◌≤◌, Bool, Option}
use Rattle.std.proofs.Common.{Some, None, Result, Ok, Err, List, length, ap, sym, ◌∙◌, arith}
use Rattle.std.specs.Prelude.{IfErr, IfOk}
use Rattle.cg_reading.specs.Column.{Stops}
use Rattle.cg_reading.specs.Readers.{whole_at}
use Rattle.cg_reading.proofs.WholeLines.{whole_again, whole_left, whole_stops, whole_takes}
use Rattle.cg_graph.specs.ColouredGraphs.{ArePairs, ColouredGraph, IsBroken, IsColouredGraphOf, IsFirstBroken, IsNoColouredGraph}
use Rattle.cg_graph.specs.ColouredGraphs.{IsPairsPlace, coloured_graph_read, coloured, edges_coloured, no_edges, no_memory}
use Rattle.cg_graph.specs.ColouredGraphs.{no_vertices, pairs_fault, pairs_of, sound_coloured, vertices_fault}
use Rattle.cg_graph.specs.Grammar.{pairs}
use Rattle.cg_graph.specs.Reading.{pairs_at}
use Rattle.cg_graph.specs.declared.fault.GraphFault.{GraphFault}
use Rattle.cg_graph.specs.declared.fault.GraphFault.TheVariants as faults
use Rattle.cg_graph.specs.declared.items.PairItem.{PairItem}
use Rattle.cg_graph.proofs.DrawingReadings.{one_place}
use Rattle.cg_moves.proofs.FirstPlaces.{First}
use Rattle.cg_graph.proofs.PairFaults.{first_broken}
use Rattle.cg_graph.proofs.Places.{pairs_are}
use Rattle.cg_graph.proofs.Productions.{pairs_ok}

pub pairs_take : (text : List ℕ) (items : List PairItem) → whole_at pairs_at text ≡ Ok items → pairs 1 items text
pairs_take text items e = whole_takes pairs pairs_at _ _ _ pairs_ok text items e

pub pairs_left : (text : List ℕ) (left : ℕ) → whole_at pairs_at text ≡ Err left → left ≤ length text
pairs_left text left e = whole_left pairs pairs_at _ _ _ pairs_ok text left e

pairs_stop : (text : List ℕ) (left : ℕ) → whole_at pairs_at text ≡ Err left → Stops ArePairs text (suc (length text) - left)
pairs_stop text left e =
    whole_stops pairs pairs_at _ _ _ pairs_ok text left (suc (length text) - left) e
    (let few = pairs_left text left e in omega arith)

-- the first place at which a pair of the text is amiss is the fault
judged : (vertices : ℕ) (text : List ℕ) (items : List PairItem) → pairs 1 items text
    → First (IsBroken vertices items) (pairs_fault vertices items)
judged vertices text items is = first_broken vertices 1 items (pairs_are 1 items text is).places

unbroken : (vertices : ℕ) (text : List ℕ) (items : List PairItem) → pairs 1 items text → pairs_fault vertices items ≡ None
    → (place : ℕ) → ¬ IsBroken vertices items place
unbroken vertices text items is e =
    rw e at (judged vertices text items is)

first_of : (vertices : ℕ) (text : List ℕ) (items : List PairItem) (place : ℕ) → pairs 1 items text
    → pairs_fault vertices items ≡ Some place → IsFirstBroken vertices items place
first_of vertices text items place is e =
    let f = rw e at (judged vertices text items is) in
    record { broken = f.0; least = f.1 }

-- ---- what is computed is what is so

abbrev ColouredResult : Type 0
ColouredResult = Result ColouredGraph GraphFault

module _ (snort : Bool) (vertices edges : List ℕ) where
  abbrev coloured_graph_of : List PairItem → ColouredGraph
  coloured_graph_of items = record { snort = snort; vertices = vertices; edges = pairs_of items }

  coloured_items : (items : List PairItem) (coloured_graph : ColouredGraph) → vertices_fault vertices ≡ None → pairs 1 items edges
      → (o : Option ℕ) → pairs_fault (length vertices) items ≡ o → sound_coloured (coloured_graph_of items) o ≡ Ok coloured_graph
      → IsColouredGraphOf snort vertices edges coloured_graph
  coloured_items items coloured_graph sound is None f g = record {
    sound = sound;
    items = items;
    is = is;
    unbroken = unbroken (length vertices) edges items is f;
    same = (let h : coloured_graph_of items ≡ coloured_graph = cc in sym h);
  }
  coloured_items items coloured_graph sound is (Some p) f g = absurd (cc)

  coloured_edges : (coloured_graph : ColouredGraph) → vertices_fault vertices ≡ None → (r : Result (List PairItem) ℕ)
      → whole_at pairs_at edges ≡ r → edges_coloured snort vertices edges r ≡ Ok coloured_graph
      → IsColouredGraphOf snort vertices edges coloured_graph
  coloured_edges coloured_graph sound (Ok items) e g =
      coloured_items items coloured_graph sound (pairs_take edges items e) (pairs_fault (length vertices) items) refl g
  coloured_edges coloured_graph sound (Err left) e g = absurd (cc)

  pub coloured_is : (coloured_graph : ColouredGraph) → coloured_graph_read snort vertices edges ≡ Ok coloured_graph → IsColouredGraphOf snort vertices edges
      coloured_graph
  unfolding coloured_graph_read
  coloured_is coloured_graph h = go (vertices_fault vertices) refl h
    where
      go : (o : Option GraphFault) → vertices_fault vertices ≡ o → coloured snort vertices edges o ≡ Ok coloured_graph
          → IsColouredGraphOf snort vertices edges coloured_graph
      go None e g = coloured_edges coloured_graph e (whole_at pairs_at edges) refl g
      go (Some f) e g = absurd (cc)

  at_place : (place : ℕ) (fault : GraphFault) → vertices_fault vertices ≡ None → IsPairsPlace (length vertices) edges place
      → faults.Edges place ≡ fault → IsNoColouredGraph vertices edges fault
  at_place place fault sound at same =
      rw (← same) (no_edges place sound at)

  uncoloured_items : (items : List PairItem) (fault : GraphFault) → vertices_fault vertices ≡ None → pairs 1 items edges
      → (o : Option ℕ) → pairs_fault (length vertices) items ≡ o → sound_coloured (coloured_graph_of items) o ≡ Err fault
      → IsNoColouredGraph vertices edges fault
  uncoloured_items items fault sound is None f g = absurd (cc)
  uncoloured_items items fault sound is (Some p) f g =
      let same : faults.Edges p ≡ fault = cc in
      at_place p fault sound (inr (items, is, first_of (length vertices) edges items p is f)) same

  uncoloured_edges : (fault : GraphFault) → vertices_fault vertices ≡ None → (r : Result (List PairItem) ℕ)
      → whole_at pairs_at edges ≡ r → edges_coloured snort vertices edges r ≡ Err fault → IsNoColouredGraph vertices edges fault
  uncoloured_edges fault sound (Ok items) e g =
      uncoloured_items items fault sound (pairs_take edges items e) (pairs_fault (length vertices) items) refl g
  uncoloured_edges fault sound (Err left) e g =
      let same : faults.Edges (suc (length edges) - left) ≡ fault = cc in
      at_place (suc (length edges) - left) fault sound (inl (pairs_stop edges left e)) same

  pub uncoloured_is : (fault : GraphFault) → coloured_graph_read snort vertices edges ≡ Err fault → IsNoColouredGraph vertices edges fault
  unfolding coloured_graph_read
  uncoloured_is fault h = go (vertices_fault vertices) refl h
    where
      go : (o : Option GraphFault) → vertices_fault vertices ≡ o → coloured snort vertices edges o ≡ Err fault
          → IsNoColouredGraph vertices edges fault
      go None e g = uncoloured_edges fault e (whole_at pairs_at edges) refl g
      go (Some f) e g = let same : f ≡ fault = cc in no_vertices fault (e ∙ ap (λ z. Some z) same)

  -- ---- what is so is computed

  read_edges : vertices_fault vertices ≡ None
      → coloured_graph_read snort vertices edges ≡ edges_coloured snort vertices edges (whole_at pairs_at edges)
  unfolding coloured_graph_read
  read_edges sound = ap (coloured snort vertices edges) sound

  pub read_items : (items : List PairItem) → vertices_fault vertices ≡ None → pairs 1 items edges
      → coloured_graph_read snort vertices edges ≡ sound_coloured (coloured_graph_of items) (pairs_fault (length vertices) items)
  read_items items sound is =
      read_edges sound ∙ ap (edges_coloured snort vertices edges) (whole_again pairs pairs_at _ _ _ pairs_ok edges items is)

  none_broken : (items : List PairItem) → pairs 1 items edges → ((place : ℕ) → ¬ IsBroken (length vertices) items place)
      → (o : Option ℕ) → pairs_fault (length vertices) items ≡ o → o ≡ None
  none_broken items is none None e = refl
  none_broken items is none (Some p) e = absurd (none p (first_of (length vertices) edges items p is e).broken)

  pub is_coloured : (coloured_graph : ColouredGraph) → IsColouredGraphOf snort vertices edges coloured_graph → coloured_graph_read snort vertices edges
      ≡ Ok coloured_graph
  is_coloured coloured_graph a =
      read_items a.items a.sound a.is
      ∙ ap (sound_coloured (coloured_graph_of a.items)) (none_broken a.items a.is a.unbroken (pairs_fault (length vertices) a.items) refl)
      ∙ ap (λ c. Ok c) (sym a.same)

  stopped : (place : ℕ) → vertices_fault vertices ≡ None → Stops ArePairs edges place
      → coloured_graph_read snort vertices edges ≡ Err (faults.Edges place)
  stopped place sound stops = read_edges sound ∙ go (whole_at pairs_at edges) refl
    where
      go : (r : Result (List PairItem) ℕ) → whole_at pairs_at edges ≡ r
          → edges_coloured snort vertices edges r ≡ Err (faults.Edges place)
      go (Ok items) e = absurd (stops.none (items, pairs_take edges items e))
      go (Err left) e =
          ap (λ p. Err (faults.Edges p)) (one_place ArePairs edges (suc (length edges) - left) place (pairs_stop edges left e) stops)

  amiss : (items : List PairItem) (place : ℕ) → vertices_fault vertices ≡ None → pairs 1 items edges
      → IsFirstBroken (length vertices) items place → coloured_graph_read snort vertices edges ≡ Err (faults.Edges place)
  amiss items place sound is first =
      read_items items sound is ∙ go (pairs_fault (length vertices) items) refl
    where
      go : (o : Option ℕ) → pairs_fault (length vertices) items ≡ o
          → sound_coloured (coloured_graph_of items) o ≡ Err (faults.Edges place)
      go None e = absurd (unbroken (length vertices) edges items is e place first.broken)
      go (Some p) e =
          let f = first_of (length vertices) edges items p is e in
          let m = f.least place first.broken in
          let n = first.least p f.broken in
          let same : p ≡ place = omega (arith, m, n) in
          ap (λ q. Err (faults.Edges q)) same

  pub is_uncoloured : (fault : GraphFault) → fault ≢ faults.Memory → IsNoColouredGraph vertices edges fault
      → coloured_graph_read snort vertices edges ≡ Err fault
  unfolding coloured_graph_read
  is_uncoloured faults.Memory n no_memory = absurd (n refl)
  is_uncoloured fault n (no_vertices f e) = ap (coloured snort vertices edges) e
  is_uncoloured fault n (no_edges place sound (inl stops)) = stopped place sound stops
  is_uncoloured fault n (no_edges place sound (inr (items, is, first))) = amiss items place sound is first

  -- ---- what the code returns

  pub said_ok : (items : List PairItem) (r : ColouredResult) → vertices_fault vertices ≡ None → whole_at pairs_at edges ≡ Ok items
      → IfOk r (λ c. sound_coloured (coloured_graph_of items) (pairs_fault (length vertices) items) ≡ Ok c)
      → IfOk r (λ c. coloured_graph_read snort vertices edges ≡ Ok c)
  said_ok items (Ok c) sound e h = read_items items sound (pairs_take edges items e) ∙ h
  said_ok items (Err f) sound e h = tt

  pub said_err : (items : List PairItem) (r : ColouredResult) → vertices_fault vertices ≡ None → whole_at pairs_at edges ≡ Ok items
      → IfErr r (λ f. (f ≡ faults.Memory) ⊎ (sound_coloured (coloured_graph_of items) (pairs_fault (length vertices) items) ≡ Err f))
      → IfErr r (λ f. (f ≡ faults.Memory) ⊎ (coloured_graph_read snort vertices edges ≡ Err f))
  said_err items (Ok c) sound e h = tt
  said_err items (Err f) sound e (inl m) = inl m
  said_err items (Err f) sound e (inr g) = inr (read_items items sound (pairs_take edges items e) ∙ g)

  pub ok_coloured : (r : ColouredResult) → IfOk r (λ c. coloured_graph_read snort vertices edges ≡ Ok c)
      → IfOk r (IsColouredGraphOf snort vertices edges)
  ok_coloured (Ok c) h = coloured_is c h
  ok_coloured (Err f) h = tt

  pub cause_uncoloured : (f : GraphFault) → (f ≡ faults.Memory) ⊎ (coloured_graph_read snort vertices edges ≡ Err f)
      → IsNoColouredGraph vertices edges f
  cause_uncoloured f (inl m) =
      rw m no_memory
  cause_uncoloured f (inr g) = uncoloured_is f g

  pub err_uncoloured : (r : ColouredResult) → IfErr r (λ f. (f ≡ faults.Memory) ⊎ (coloured_graph_read snort vertices edges ≡ Err f))
      → IfErr r (IsNoColouredGraph vertices edges)
  err_uncoloured (Ok c) h = tt
  err_uncoloured (Err f) h = cause_uncoloured f h

  pub stuck_cause : (left place : ℕ) → vertices_fault vertices ≡ None → whole_at pairs_at edges ≡ Err left
      → place + left ≡ suc (length edges) → coloured_graph_read snort vertices edges ≡ Err (faults.Edges place)
  stuck_cause left place sound e at =
      let same : suc (length edges) - left ≡ place = omega arith in
      read_edges sound ∙ ap (edges_coloured snort vertices edges) e ∙ ap (λ p. Err (faults.Edges p)) same

  pub vertices_cause : (f : GraphFault) → Some f ≡ vertices_fault vertices → coloured_graph_read snort vertices edges ≡ Err f
  unfolding coloured_graph_read
  vertices_cause f e = ap (coloured snort vertices edges) (sym e)

-- The items of texts: how many bytes they have and where they stand.
use Rattle.std.proofs.Common.{◌≡◌, ℕ, ◌+◌, ◌^◌, ◌<◌, ◌≤◌, true, List, [], ◌∷◌, length, inl, inr, ap, arith, length-append}
use Rattle.std.specs.Prelude.{All}
use Rattle.std.proofs.lemmas.List.Elements.{All-cons}
use Rattle.cg_reading.specs.Bytes.{has}
use Rattle.cg_reading.specs.Pieces.{Many}
use Rattle.cg_graph.specs.Drawings.{IsEdge, drawing_of}
use Rattle.cg_graph.specs.Grammar as s
use Rattle.cg_graph.specs.Items.{IsLettered}
use Rattle.cg_graph.specs.declared.items.EdgeItem.{EdgeItem}
use Rattle.cg_graph.specs.declared.items.PairItem.{PairItem}

-- ---- edges

edge_is : (i : ℕ) (item : EdgeItem) (text : List ℕ) → s.edge i item text → IsEdge item.edge
edge_is i item text is =
    rw is.same (record {
      one = is.is.first.1.within;
      colour = is.is.second.first.within;
      other = is.is.second.second.within;
    })

more_edges : (i : ℕ) (items : List EdgeItem) (text : List ℕ) → Many (s.behind_comma s.edge) i items text
    → All IsEdge (drawing_of items)
more_edges i [] text is = λ k d below. absurd (omega arith)
more_edges i (e ∷ items) text is =
    let m = is.first.is in
    All-cons IsEdge e.edge (drawing_of items)
    (rw is.first.same (edge_is (i + length m.before) is.first.made_of.1 m.behind m.second))
    (more_edges (i + length is.before) items is.behind is.second)

-- a text of edges has one at least, and each is one
pub edges_are : (i : ℕ) (items : List EdgeItem) (text : List ℕ) → s.edges i items text
    → (1 ≤ length items) × All IsEdge (drawing_of items)
edges_are i items text is =
    let t = is.is in
    rw is.same (
      omega arith,
      All-cons IsEdge is.made_of.0.edge (drawing_of is.made_of.1) (edge_is i is.made_of.0 t.before t.first)
          (more_edges (i + length t.before) is.made_of.1 t.behind t.second),
    )

-- ---- pairs

-- a pair of letters at this place
record PairAt (i : ℕ) (item : PairItem) (size : ℕ) : Type 0 where
  place : item.place ≡ i
  one : has s.letter item.one ≡ true
  other : has s.letter item.other ≡ true
  long : size ≡ 2

pair_is : (i : ℕ) (item : PairItem) (text : List ℕ) → s.pair i item text → PairAt i item (length text)
pair_is i item text is =
    let t = is.is in
    let a = ap length t.first.1.spelled in
    let b = ap length t.second.spelled in
    let c = ap length t.spelled in
    let d = length-append t.before t.behind in
    rw is.same (record {
      place = t.first.0;
      one = t.first.1.within;
      other = t.second.within;
      long = omega arith;
    })

-- the places rise from this one on, by two bytes at least
abbrev pub PlacesFrom : ℕ → List PairItem → Type 0
PlacesFrom low [] = Unit {0}
PlacesFrom low (i ∷ items) = (low ≤ i.place) × PlacesFrom (i.place + 2) items

lower : (low less : ℕ) (items : List PairItem) → less ≤ low → PlacesFrom low items → PlacesFrom less items
lower low less [] h p = tt
lower low less (i ∷ items) h p = (let a = p.0 in omega arith, p.1)

-- pairs of letters from this place on, in so many bytes
pub record PairsAt (i : ℕ) (items : List PairItem) (size : ℕ) : Type 0 where
  pub places : PlacesFrom i items
  pub letters : i + size < 2 ^ 64 → All IsLettered items

pairs_cons : (i j size more : ℕ) (item : PairItem) (items : List PairItem) → i ≤ j → PairAt j item 2
    → PairsAt (j + 2) items more → j + 2 + more ≡ i + size → PairsAt i (item ∷ items) size
pairs_cons i j size more item items h p q e = record {
  places = let a = p.place in (omega arith, lower (j + 2) (item.place + 2) items (omega arith) q.places);
  letters = λ few. All-cons IsLettered item items
      (record { one = p.one; other = p.other; place = let a = p.place in omega arith }) (q.letters (omega arith));
}

more_pairs : (i : ℕ) (items : List PairItem) (text : List ℕ) → Many (s.behind_comma s.pair) i items text
    → PairsAt i items (length text)
more_pairs i [] text is = record { places = tt; letters = λ few. λ k d below. absurd (omega arith) }
more_pairs i (item ∷ items) text is =
    let m = is.first.is in
    let a : PairAt (i + length m.before) item (length m.behind) =
    rw is.first.same (pair_is (i + length m.before) is.first.made_of.1 m.behind m.second) in
    let one = ap length m.first.spelled in
    let b = ap length m.spelled in
    let c = length-append m.before m.behind in
    let d = ap length is.spelled in
    let e = length-append is.before is.behind in
    let two = a.long in
    let same : i + length is.before ≡ i + length m.before + 2 = omega arith in
    pairs_cons i (i + length m.before) (length text) (length is.behind) item items (omega arith) (rw (← two) a)
    (rw (← same) (more_pairs (i + length is.before) items is.behind is.second)) (omega arith)

pub pairs_are : (i : ℕ) (items : List PairItem) (text : List ℕ) → s.pairs i items text → PairsAt i items (length text)
pairs_are i items text (inr is) =
    rw is.0 (record { places = tt; letters = λ few. λ k d below. absurd (omega arith) })
pairs_are i items text (inl is) =
    let t = is.is in
    let a = pair_is i is.made_of.0 t.before t.first in
    let d = ap length t.spelled in
    let e = length-append t.before t.behind in
    let two = a.long in
    rw is.same
    (pairs_cons i i (length text) (length t.behind) is.made_of.0 is.made_of.1 (omega arith) (rw (← two) a)
    (rw (← two) (more_pairs (i + length t.before) is.made_of.1 t.behind t.second)) (omega arith))

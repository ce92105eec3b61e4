-- Labels get one by one the edges that are there, and say which edges are joined.
use Rattle.std.proofs.Common.{◌≡◌, ◌≢◌, refl, ℕ, zero, suc, ◌<◌, ◌≤◌, ◌+◌, ◌-◌, ◌==◌, ◌&&◌, ◌||◌, Bool, true, false, if◌then◌else◌, Some, List}
use Rattle.std.proofs.Common.{[], ◌∷◌, length, drop, get_or, inl, inr, ap, sym, ◌∙◌, arith, length-set, get_or-set_same, get_or-set_other}
use Rattle.std.specs.Prelude.{All, slice_get, slice_index, slice_set}
use Rattle.std.proofs.Math.Seq.{drop-cons}
use Rattle.std.proofs.lemmas.Bool.{eqb-true, eq-eqb}
use Rattle.cg_dyadic.proofs.Truth.{false-from}
use Rattle.cg_reading.specs.Bytes.{has}
use Rattle.cg_moves.proofs.Counted.{same-or-not}
use Rattle.cg_graph.specs.Drawings.{IsEdge, graph_of}
use Rattle.cg_graph.specs.Grammar.{vertex}
use Rattle.cg_graph.specs.Labels.{AreLabels, relabelled}
use Rattle.cg_graph.specs.Paths.{Edge, connected, gone, ground, has_end, is_joined, kept, present}
use Rattle.cg_graph.specs.declared.edge.ColouredEdge.{ColouredEdge}

pub vertex_below : (b : ℕ) → has vertex b ≡ true → b < 91
vertex_below b h = grind arith

differs : (k j : ℕ) → k ≢ j → (k == j) ≡ false
differs k j n = false-from (k == j) (λ t. n (eqb-true k j t))

-- whether two labels are one, after the label d became c
abbrev Merged : (a b c d : ℕ) → Type 0
Merged a b c d = (relabelled d c a == relabelled d c b) ≡ ((a == b) || ((a == c) && (d == b)) || ((a == d) && (c == b)))

same-true : (k : ℕ) → (k == k) ≡ true
same-true k = eq-eqb k k refl

and-true : (t : Bool) → (t && true) ≡ t
and-true true = refl
and-true false = refl

or-false : (t : Bool) → (t || false) ≡ t
or-false true = refl
or-false false = refl

both_old : (c d : ℕ) → Merged d d c d
both_old c d =
    let e = same-true d in
    let f = same-true c in
    (λ i. (if e i then c else d) == (if e i then c else d)) ∙ f
    ∙ sym (λ i. e i || ((d == c) && e i) || (e i && (c == d)))

first_old : (b c d : ℕ) → b ≢ d → Merged d b c d
first_old b c d n =
    let e = same-true d in
    let f = differs b d n in
    let g = differs d b (λ h. n (sym h)) in
    (λ i. (if e i then c else d) == (if f i then c else b))
    ∙ sym ((λ i. g i || ((d == c) && g i) || (e i && (c == b))) ∙ gone_or (d == c) (c == b))
  where
    gone_or : (s t : Bool) → (false || (s && false) || (true && t)) ≡ t
    gone_or true t = refl
    gone_or false t = refl

second_old : (a c d : ℕ) → a ≢ d → Merged a d c d
second_old a c d n =
    let e = same-true d in
    let f = differs a d n in
    (λ i. (if f i then c else a) == (if e i then c else d))
    ∙ sym ((λ i. f i || ((a == c) && e i) || (f i && (c == d))) ∙ or-false ((a == c) && true) ∙ and-true (a == c))

none_old : (a b c d : ℕ) → a ≢ d → b ≢ d → Merged a b c d
none_old a b c d m n =
    let e = differs a d m in
    let f = differs b d n in
    let g = differs d b (λ h. n (sym h)) in
    (λ i. (if e i then c else a) == (if f i then c else b))
    ∙ sym ((λ i. (a == b) || ((a == c) && g i) || (e i && (c == b))) ∙ stays (a == b) (a == c))
  where
    stays : (s t : Bool) → (s || (t && false) || false) ≡ s
    stays true true = refl
    stays true false = refl
    stays false true = refl
    stays false false = refl

merged : (a b c d : ℕ) → Merged a b c d
merged a b c d = elim (same-or-not a d) [
  | inl p ↦ elim (same-or-not b d) [
    | inl q ↦ (rw p (rw q (both_old c d)))
    | inr n ↦ (rw p (first_old b c d n))
  ]
  | inr m ↦ elim (same-or-not b d) [
    | inl q ↦ (rw q (second_old a c d m))
    | inr n ↦ none_old a b c d m n
  ]
]

labels_joined : (labels next : List ℕ) (es : List Edge) (one other : ℕ) → AreLabels labels es → one < 91 → other < 91
    → length next ≡ length labels
    → ((k : ℕ) → k < length labels
    → slice_index next k ≡ relabelled (slice_index labels other) (slice_index labels one) (slice_index labels k))
    → AreLabels next (record { one = one; other = other } ∷ es)
labels_joined labels next es one other is low high long value = record {
  long = long ∙ is.long;
  same = λ u v below_u below_v.
      let size = is.long in
      let c : ℕ = slice_index labels one in
      let d : ℕ = slice_index labels other in
      let x = value u (omega arith) in
      let y = value v (omega arith) in
      let n : (slice_index next u == slice_index next v)
      ≡ (relabelled d c (slice_index labels u) == relabelled d c (slice_index labels v)) = λ i. x i == y i in
      let p = is.same u v below_u below_v in
      let q = is.same u one below_u low in
      let r = is.same other v high below_v in
      let s = is.same u other below_u high in
      let t = is.same one v low below_v in
      let w : ((slice_index labels u == slice_index labels v)
      || ((slice_index labels u == c) && (d == slice_index labels v))
      || ((slice_index labels u == d) && (c == slice_index labels v)))
      ≡ connected (record { one = one; other = other } ∷ es) u v = λ i. p i || (q i && r i) || (s i && t i) in
      n ∙ merged (slice_index labels u) (slice_index labels v) c d ∙ w;
}

-- ---- the edges that are there, from the last to the first

present_gone : (es : List Edge) (cells : List ℕ) (k c : ℕ) (e : Edge) → drop k es ≡ e ∷ drop (suc k) es
    → drop k cells ≡ c ∷ drop (suc k) cells → c ≡ gone
    → present (drop (suc k) es) (drop (suc k) cells) ≡ present (drop k es) (drop k cells)
present_gone es cells k c e f g h =
    sym (ap (λ z. present z (drop k cells)) f ∙ ap (present (e ∷ drop (suc k) es)) g
    ∙ ap (λ b. if b then present (drop (suc k) es) (drop (suc k) cells) else e ∷ present (drop (suc k) es) (drop (suc k) cells)) (eq-eqb c gone h))

present_more : (es : List Edge) (cells : List ℕ) (k c : ℕ) (e : Edge) → drop k es ≡ e ∷ drop (suc k) es
    → drop k cells ≡ c ∷ drop (suc k) cells → c ≢ gone
    → e ∷ present (drop (suc k) es) (drop (suc k) cells) ≡ present (drop k es) (drop k cells)
present_more es cells k c e f g h =
    sym (ap (λ z. present z (drop k cells)) f ∙ ap (present (e ∷ drop (suc k) es)) g
    ∙ ap (λ b. if b then present (drop (suc k) es) (drop (suc k) cells) else e ∷ present (drop (suc k) es) (drop (suc k) cells)) (differs c gone h))

graph_drop : (edges : List ColouredEdge) (k : ℕ) (d : ColouredEdge) → k < length edges
    → drop k (graph_of edges) ≡ (let e = get_or edges k d in record { one = e.one; other = e.other }) ∷ drop (suc k) (graph_of edges)
graph_drop [] k d below = absurd (omega arith)
graph_drop (e ∷ edges) zero d below = refl
graph_drop (e ∷ edges) (suc k) d below = graph_drop edges k d (omega arith)

graph_get : (edges : List ColouredEdge) (k : ℕ) (d : ColouredEdge) → k < length edges
    → slice_get (graph_of edges) k ≡ Some (let e = get_or edges k d in record { one = e.one; other = e.other })
graph_get [] k d below = absurd (omega arith)
graph_get (e ∷ edges) zero d below = refl
graph_get (e ∷ edges) (suc k) d below = graph_get edges k d (omega arith)

cells_drop : (cells : List ℕ) (k : ℕ) → k < length cells → drop k cells ≡ slice_index cells k ∷ drop (suc k) cells
cells_drop cells k below = drop-cons cells k 0 below

-- labels of the edges from a place on, without those that are gone
abbrev pub AreLabelsFrom : List ℕ → List ColouredEdge → List ℕ → ℕ → Type 0
AreLabelsFrom labels edges cells k = AreLabels labels (present (drop k (graph_of edges)) (drop k cells))

down : (k : ℕ) → 0 < k → k ≡ suc (k - 1)
down k some = omega arith

pub label_gone : (labels cells : List ℕ) (edges : List ColouredEdge) (k : ℕ) → 0 < k → k ≤ length edges
    → length edges ≡ length cells → slice_index cells (k - 1) ≡ gone → AreLabelsFrom labels edges cells k
    → AreLabelsFrom labels edges cells (k - 1)
label_gone labels cells [] k some within size none is = absurd (omega arith)
label_gone labels cells (x ∷ edges) k some within size none is =
    let d = x in
    let all : List ColouredEdge = x ∷ edges in
    rw (← (present_gone (graph_of all) cells (k - 1) (slice_index cells (k - 1)) _
    (graph_drop all (k - 1) d (omega arith)) (cells_drop cells (k - 1) (omega arith)) none)) (rw (← (down k some)) is)

pub label_joined : (labels next cells : List ℕ) (edges : List ColouredEdge) (k : ℕ) (d : ColouredEdge) → 0 < k
    → k ≤ length edges → length edges ≡ length cells → All IsEdge edges → slice_index cells (k - 1) ≢ gone
    → AreLabelsFrom labels edges cells k → length next ≡ length labels
    → ((j : ℕ) → j < length labels → slice_index next j ≡ relabelled (slice_index labels (get_or edges (k - 1) d).other)
    (slice_index labels (get_or edges (k - 1) d).one) (slice_index labels j))
    → AreLabelsFrom next edges cells (k - 1)
label_joined labels next cells edges k d some within size are there is long value =
    let e : IsEdge (get_or edges (k - 1) d) = are (k - 1) d (omega arith) in
    rw (← (present_more (graph_of edges) cells (k - 1) (slice_index cells (k - 1)) _
    (graph_drop edges (k - 1) d (omega arith)) (cells_drop cells (k - 1) (omega arith)) there))
    (labels_joined labels next (present (drop (suc (k - 1)) (graph_of edges)) (drop (suc (k - 1)) cells))
    (get_or edges (k - 1) d).one (get_or edges (k - 1) d).other (rw (← (down k some)) is)
    (vertex_below _ e.one) (vertex_below _ e.other) long value)

-- ---- the edges that are joined

pub joined_by : (labels cells : List ℕ) (es : List Edge) (k : ℕ) (e : Edge) → AreLabels labels (present es cells)
    → slice_get es k ≡ Some e → e.one < 91 → e.other < 91
    → ((slice_index labels ground == slice_index labels e.one) || (slice_index labels ground == slice_index labels e.other))
    ≡ is_joined es cells k
unfolding is_joined
joined_by labels cells es k e is at low high =
    let p = is.same ground e.one (omega arith) low in
    let q = is.same ground e.other (omega arith) high in
    (λ i. p i || q i) ∙ ap (has_end (connected (present es cells) ground)) (sym at)

pub joined_at : (labels cells : List ℕ) (edges : List ColouredEdge) (k : ℕ) (d : ColouredEdge)
    → AreLabels labels (present (graph_of edges) cells) → All IsEdge edges → k < length edges
    → ((slice_index labels ground == slice_index labels (get_or edges k d).one)
    || (slice_index labels ground == slice_index labels (get_or edges k d).other)) ≡ is_joined (graph_of edges) cells k
joined_at labels cells edges k d is are below =
    let e : IsEdge (get_or edges k d) = are k d below in
    joined_by labels cells (graph_of edges) k _ is (graph_get edges k d below) (vertex_below _ e.one) (vertex_below _ e.other)

-- ---- the cells that are kept, cell by cell

-- below the place the cells are those that pass the test, the others gone; from there on they are as at the start
pub record IsKeptBelow (test : ℕ → Bool) (start cells : List ℕ) (i : ℕ) : Type 0 where
  pub long : length cells ≡ length start
  pub done : (k : ℕ) → k < i → slice_index cells k ≡ (if test k then slice_index start k else gone)
  pub left : (k : ℕ) → i ≤ k → slice_index cells k ≡ slice_index start k

pub kept_stays : (test : ℕ → Bool) (start cells next : List ℕ) (i : ℕ) → IsKeptBelow test start cells i → test i ≡ true
    → next ≡ cells → IsKeptBelow test start next (i + 1)
kept_stays test start cells next i is passes same =
    rw same (record {
      long = is.long;
      done = λ k below. elim (same-or-not k i) [
        | inl e ↦ (rw e (is.left i (omega arith) ∙ sym (ap (λ b. if b then slice_index start i else gone) passes)))
        | inr n ↦ is.done k (omega (arith, n))
      ];
      left = λ k above. is.left k (omega arith);
    })

pub kept_goes : (test : ℕ → Bool) (start cells next : List ℕ) (i : ℕ) → IsKeptBelow test start cells i → i < length start
    → test i ≡ false → next ≡ slice_set cells i gone → IsKeptBelow test start next (i + 1)
kept_goes test start cells next i is below fails same =
    let size = is.long in
    rw same (record {
      long = length-set cells i gone ∙ is.long;
      done = λ k lower. elim (same-or-not k i) [
        | inl e ↦ (rw e (get_or-set_same cells i gone 0 (omega arith)
            ∙ sym (ap (λ b. if b then slice_index start i else gone) fails)))
        | inr n ↦ get_or-set_other cells i k gone 0 n ∙ is.done k (omega (arith, n))
      ];
      left = λ k above. get_or-set_other cells i k gone 0 (λ e. absurd (omega (arith, e))) ∙ is.left k (omega arith);
    })

all_kept : (test : ℕ → Bool) (xs ys : List ℕ) → length ys ≡ length xs
    → ((k : ℕ) → k < length xs → slice_index ys k ≡ (if test k then slice_index xs k else gone)) → ys ≡ kept test xs
all_kept test [] [] l h = refl
all_kept test [] (y ∷ ys) l h = absurd (omega arith)
all_kept test (x ∷ xs) [] l h = absurd (omega arith)
all_kept test (x ∷ xs) (y ∷ ys) l h =
    ap (λ z. z ∷ ys) (h zero (omega arith))
    ∙ ap (λ z. (if test zero then x else gone) ∷ z) (all_kept (λ k. test (suc k)) xs ys (omega arith) (λ k below. h (suc k) (omega arith)))

pub kept_all : (test : ℕ → Bool) (start cells : List ℕ) (i : ℕ) → IsKeptBelow test start cells i → length start ≤ i
    → cells ≡ kept test start
kept_all test start cells i is end = all_kept test start cells is.long (λ k below. is.done k (omega arith))

-- What reading a text says of it as a drawing.
use Rattle.std.proofs.Common.{◌≡◌, ◌≢◌, ◌⊎◌, inl, inr, refl, ℕ, suc, ◌+◌, ◌-◌, ◌<◌, ◌≤◌, Option, Some}
use Rattle.std.proofs.Common.{None, Result, Ok, Err, List, [], ◌∷◌, length, ap, sym, ◌∙◌, arith}
use Rattle.std.specs.Prelude.{IfErr, IfOk, slice_get}
use Rattle.std.proofs.lemmas.Option.{none-some, slice_get-get_or, slice_get_past}
use Rattle.cg_reading.specs.Column.{Stops}
use Rattle.cg_reading.specs.Readers.{whole_at}
use Rattle.cg_reading.proofs.WholeLines.{whole_again, whole_left, whole_stops, whole_takes}
use Rattle.cg_graph.specs.Drawings.{AreEdges, IsDrawnAs, IsNotDrawn, IsTooLarge, drawing_of, drawing_read, drawn, few_drawn}
use Rattle.cg_graph.specs.Grammar.{edges}
use Rattle.cg_graph.specs.Reading.{edges_at}
use Rattle.cg_graph.specs.declared.edge.ColouredEdge.{ColouredEdge}
use Rattle.cg_graph.specs.declared.fault.GraphFault.{GraphFault}
use Rattle.cg_graph.specs.declared.fault.GraphFault.TheVariants as faults
use Rattle.cg_graph.specs.declared.items.EdgeItem.{EdgeItem}
use Rattle.cg_graph.proofs.Productions.{edges_ok}

-- a text leaves its grammar at one place
pub one_place : (Is_line : List ℕ → Type 0) (text : List ℕ) (p q : ℕ) → Stops Is_line text p → Stops Is_line text q → p ≡ q
one_place Is_line text p q a b =
    let m = a.longest b.before b.behind b.split b.begun in
    let n = b.longest a.before a.behind a.split a.begun in
    omega (arith, m, n, a.at, b.at)

pub edges_take : (text : List ℕ) (items : List EdgeItem) → whole_at edges_at text ≡ Ok items → edges 1 items text
edges_take text items e = whole_takes edges edges_at _ _ _ edges_ok text items e

pub edges_left : (text : List ℕ) (left : ℕ) → whole_at edges_at text ≡ Err left → left ≤ length text
edges_left text left e = whole_left edges edges_at _ _ _ edges_ok text left e

edges_stop : (text : List ℕ) (left : ℕ) → whole_at edges_at text ≡ Err left → Stops AreEdges text (suc (length text) - left)
edges_stop text left e =
    whole_stops edges edges_at _ _ _ edges_ok text left (suc (length text) - left) e
    (let few = edges_left text left e in omega arith)

-- no 65th item, so 64 at most
few : (items : List EdgeItem) → slice_get items 64 ≡ None → length items ≤ 64
few [] e = omega arith
few (i ∷ items) e =
    let go : (64 < length (i ∷ items)) → ⊥ = λ h. none-some _ (sym e ∙ slice_get-get_or (i ∷ items) 64 i h) in
    omega (arith, go)

-- ---- what is computed is what is so

drawn_items : (text : List ℕ) (items : List EdgeItem) (drawing : List ColouredEdge) → whole_at edges_at text ≡ Ok items
    → (o : Option EdgeItem) → slice_get items 64 ≡ o → few_drawn items o ≡ Ok drawing → IsDrawnAs text drawing
drawn_items text items drawing e None f g = record {
  items = items;
  is = edges_take text items e;
  few = few items f;
  same = (let h : drawing_of items ≡ drawing = cc in sym h);
}
drawn_items text items drawing e (Some i) f g = absurd (cc)

pub drawn_is : (text : List ℕ) (drawing : List ColouredEdge) → drawing_read text ≡ Ok drawing → IsDrawnAs text drawing
unfolding drawing_read
drawn_is text drawing h = go (whole_at edges_at text) refl h
  where
    go : (r : Result (List EdgeItem) ℕ) → whole_at edges_at text ≡ r → drawn text r ≡ Ok drawing → IsDrawnAs text drawing
    go (Ok items) e g = drawn_items text items drawing e (slice_get items 64) refl g
    go (Err left) e g = absurd (cc)

refused_items : (text : List ℕ) (items : List EdgeItem) (fault : GraphFault) → whole_at edges_at text ≡ Ok items
    → (o : Option EdgeItem) → slice_get items 64 ≡ o → few_drawn items o ≡ Err fault → IsNotDrawn text fault
refused_items text items fault e None f g = absurd (cc)
refused_items text items fault e (Some i) f g =
    let same : faults.Large i.place ≡ fault = cc in
    let t : IsTooLarge text i.place = record {
      items = items;
      is = edges_take text items e;
      first = i;
      at = f;
      same = refl;
    } in
    rw (← same) t

pub refused_is : (text : List ℕ) (fault : GraphFault) → drawing_read text ≡ Err fault → IsNotDrawn text fault
unfolding drawing_read
refused_is text fault h = go (whole_at edges_at text) refl h
  where
    go : (r : Result (List EdgeItem) ℕ) → whole_at edges_at text ≡ r → drawn text r ≡ Err fault → IsNotDrawn text fault
    go (Ok items) e g = refused_items text items fault e (slice_get items 64) refl g
    go (Err left) e g =
        let same : faults.Edges (suc (length text) - left) ≡ fault = cc in
        rw (← same) (edges_stop text left e)

-- ---- what is so is computed

again : (text : List ℕ) (items : List EdgeItem) → edges 1 items text
    → drawing_read text ≡ few_drawn items (slice_get items 64)
unfolding drawing_read
again text items is = ap (drawn text) (whole_again edges edges_at _ _ _ edges_ok text items is)

pub is_drawn : (text : List ℕ) (drawing : List ColouredEdge) → IsDrawnAs text drawing → drawing_read text ≡ Ok drawing
is_drawn text drawing a =
    again text a.items a.is ∙ ap (few_drawn a.items) (slice_get_past a.items 64 a.few) ∙ ap (λ d. Ok d) (sym a.same)

stopped : (text : List ℕ) (place : ℕ) → Stops AreEdges text place → drawing_read text ≡ Err (faults.Edges place)
unfolding drawing_read
stopped text place stops = go (whole_at edges_at text) refl
  where
    go : (r : Result (List EdgeItem) ℕ) → whole_at edges_at text ≡ r → drawn text r ≡ Err (faults.Edges place)
    go (Ok items) e = absurd (stops.none (items, edges_take text items e))
    go (Err left) e =
        ap (λ p. Err (faults.Edges p)) (one_place AreEdges text (suc (length text) - left) place (edges_stop text left e) stops)

pub is_refused : (text : List ℕ) (fault : GraphFault) → fault ≢ faults.Memory → IsNotDrawn text fault
    → drawing_read text ≡ Err fault
is_refused text faults.Memory n a = absurd (n refl)
is_refused text (faults.Edges place) n a = stopped text place a
is_refused text (faults.Large place) n a =
    again text a.items a.is ∙ ap (few_drawn a.items) a.at ∙ ap (λ p. Err (faults.Large p)) (sym a.same)
is_refused text (faults.Symbol place) n a = absurd a
is_refused text (faults.Empty place) n a = absurd a

-- ---- what the code returns

abbrev Drawn : Type 0
Drawn = Result (List ColouredEdge) GraphFault

pub said_ok : (text : List ℕ) (items : List EdgeItem) (r : Drawn) → whole_at edges_at text ≡ Ok items
    → IfOk r (λ d. few_drawn items (slice_get items 64) ≡ Ok d) → IfOk r (λ d. drawing_read text ≡ Ok d)
said_ok text items (Ok d) e h = again text items (edges_take text items e) ∙ h
said_ok text items (Err f) e h = tt

pub said_err : (text : List ℕ) (items : List EdgeItem) (r : Drawn) → whole_at edges_at text ≡ Ok items
    → IfErr r (λ f. (f ≡ faults.Memory) ⊎ (few_drawn items (slice_get items 64) ≡ Err f))
    → IfErr r (λ f. (f ≡ faults.Memory) ⊎ (drawing_read text ≡ Err f))
said_err text items (Ok d) e h = tt
said_err text items (Err f) e (inl m) = inl m
said_err text items (Err f) e (inr g) = inr (again text items (edges_take text items e) ∙ g)

pub ok_drawn : (text : List ℕ) (r : Drawn) → IfOk r (λ d. drawing_read text ≡ Ok d) → IfOk r (IsDrawnAs text)
ok_drawn text (Ok d) h = drawn_is text d h
ok_drawn text (Err f) h = tt

pub cause_refused : (text : List ℕ) (f : GraphFault) → (f ≡ faults.Memory) ⊎ (drawing_read text ≡ Err f) → IsNotDrawn text f
cause_refused text f (inl m) = rw m tt
cause_refused text f (inr g) = refused_is text f g

pub err_refused : (text : List ℕ) (r : Drawn) → IfErr r (λ f. (f ≡ faults.Memory) ⊎ (drawing_read text ≡ Err f))
    → IfErr r (IsNotDrawn text)
err_refused text (Ok d) h = tt
err_refused text (Err f) h = cause_refused text f h

pub stuck_cause : (text : List ℕ) (left place : ℕ) → whole_at edges_at text ≡ Err left → place + left ≡ suc (length text)
    → drawing_read text ≡ Err (faults.Edges place)
unfolding drawing_read
stuck_cause text left place e at =
    let same : suc (length text) - left ≡ place = omega arith in
    ap (drawn text) e ∙ ap (λ p. Err (faults.Edges p)) same

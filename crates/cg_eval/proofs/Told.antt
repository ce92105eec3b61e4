-- Answers from what is told of the games of handles.
use Rattle.std.proofs.Common.{◌≡◌, ◌<◌, refl, ap, sym, ◌∙◌, subst, ℕ, arith, Bool, true, false, List, ◌++◌, Option, Some, None, Ok, Err}
use Rattle.std.proofs.Common.{if◌then◌else◌, pos, inl, inr}
use Rattle.std.specs.Prelude.{◌↔◌, IsTrue, String, string_bytes}
use Rattle.cg_cells.specs.Store.{Spends, State}
use Rattle.cg_dyadic.specs.Number.{whole}
use Rattle.cg_dyadic.specs.Wide.{places}
use Rattle.cg_form.specs.Depth.{depth_of}
use Rattle.cg_form.specs.Game.{Game, number}
use Rattle.cg_form.specs.Order.{le}
use Rattle.cg_form.specs.Outcome as form
use Rattle.cg_form.specs.Stops as form_stops
use Rattle.cg_form.specs.Sum.{nothing}
use Rattle.cg_form.proofs.StopValues.{equal_stops}
use Rattle.cg_nodes.specs.Can.{can}
use Rattle.cg_nodes.specs.CanLaw.{can-equal}
use Rattle.cg_nodes.specs.Games.{StandsFor, game_at}
use Rattle.cg_nodes.specs.Meant.{Meant}
use Rattle.cg_nodes.proofs.Later.{stands_game, stands_later}
use Rattle.cg_canon.specs.declared.fault.ValueFault.TheVariants.{Memory}
use Rattle.cg_canon.specs.declared.rest.WorkRest.{WorkRest}
use Rattle.cg_canon.specs.Items.{Item}
use Rattle.cg_names.specs.Name.{IsName}
use Rattle.cg_thermo.specs.StopsOf.{StopsAre}
use Rattle.cg_thermo.specs.Thermal.{NeedsMore}
use Rattle.cg_thermo.specs.Thermographs.{IsThermograph}
use Rattle.cg_thermo.specs.Winners.{told, winner_by}
use Rattle.cg_thermo.specs.declared.ending.Stops.{Stops}
use Rattle.cg_thermo.specs.declared.thermo.Walls.{Walls}
use Rattle.cg_thermo.specs.declared.winner.Outcome.{Outcome}
use Rattle.cg_thermo.proofs.Wins.{wins}
use Rattle.cg_cert.specs.Answer.{IsLong, IsShort, proof_answer}
use Rattle.cg_cert.specs.Proves.{IsProofOf}
use Rattle.cg_query.specs.Tree.{Question, Tree}
use Rattle.cg_eval.specs.Faults.{fault_in, first_of_two, question_fault}
use Rattle.cg_eval.specs.Items.{items, question_items}
use Rattle.cg_eval.specs.Meaning.{meaning}
use Rattle.cg_eval.specs.Parts.{IsCompared, IsDrawn, IsToldOfTwo, Tells, TellsTwo, asked_of, asked_of_two, part_asked, part_text, winner_of, yes_or_no}
use Rattle.cg_eval.specs.Pictures.{stops_text}
use Rattle.cg_eval.specs.Progress.{Evaluates, EvaluatesTwo, Makes, Stops as Halts}
use Rattle.cg_eval.specs.Refused.{IsRefusedBy}
use Rattle.cg_eval.specs.Reply.{IsAnswerTo, IsChecked, IsProofTold, Piece, answer, comparison, too_fine, too_long, winner}
use Rattle.cg_eval.specs.Shown.{Answers, HandleIs, IsDeep, first_of, shown}
use Rattle.cg_eval.specs.declared.answered.Answered.{Answered}
use Rattle.cg_eval.specs.declared.fault.NoValue.{NoValue}
use Rattle.cg_eval.specs.declared.pictures.Part.{Part}
use Rattle.cg_eval.specs.declared.pictures.Part.TheVariants as parts
use Rattle.cg_eval.specs.declared.telling.Asked.{Asked}
use Rattle.cg_eval.specs.declared.telling.Asked.TheVariants as asking
use Rattle.cg_eval.specs.declared.telling.AskedOfTwo.{AskedOfTwo}
use Rattle.cg_eval.specs.declared.telling.AskedOfTwo.TheVariants.{Order, Proof, Check}
use Rattle.cg_thermo.proofs.EqualThermographs.{equal-thermograph}
use Rattle.cg_eval.proofs.Replies.{le-forms, le-value_zero, makes_spends, zero-le_value}
use Rattle.cg_eval.proofs.Steps.{lacks_fault, lacks_items, stops_memory}

-- ---- what is told

tells-answer : (g : Game) (h : ℕ) (asked : Asked) (text : List ℕ) (a : Answered) → shown a ≡ answer text
    → a.handle ≡ Some h → ((t : Tree) → g ≡ can (meaning t) → IsDeep (asked_of asked t))
    → ((t : Tree) → g ≡ can (meaning t) → IsAnswerTo (asked_of asked t) (answer text)) → Tells g h asked a
tells-answer g h asked text a e f deep all = record {
  text = λ t is. rw e (all t is);
  deep = deep;
  handle = f ∙ ap (λ (b : Bool). if b then None else Some h) (sym (ap (λ (z : Piece). z.refused) e));
}

pub told-value : (g : Game) (h : ℕ) (text : List ℕ) (a : Answered) → IsName g text → shown a ≡ answer text
    → a.handle ≡ Some h → Tells g h asking.Value a
told-value g h text a n e f = tells-answer g h asking.Value text a e f (λ t is. tt)
    (λ t is. (text, rw (← is) n, refl))

by_order : (b c : Bool) → winner_of (winner_by b c) ≡ winner b c
by_order true true = refl
by_order true false = refl
by_order false true = refl
by_order false false = refl

wins-order : (m : Game) → winner_of (told (form.outcome (can m))) ≡ winner (le nothing m) (le m nothing)
wins-order m =
    let e = can-equal m in
    ap winner_of (sym (wins (can m))) ∙ by_order _ _
    ∙ ap (λ b. winner b (le (can m) (number (whole (pos 0))))) (zero-le_value m) ∙ ap (winner (le nothing m)) (le-value_zero m)

pub told-outcome : (g : Game) (h : ℕ) (o : Outcome) (text : List ℕ) (a : Answered) → o ≡ told (form.outcome g)
    → text ≡ winner_of o → shown a ≡ answer text → a.handle ≡ Some h → Tells g h asking.Outcome a
told-outcome g h o text a w n e f = tells-answer g h asking.Outcome text a e f (λ t is. tt) (λ t is.
    ap answer (n ∙ ap winner_of (w ∙ ap (λ z. told (form.outcome z)) is) ∙ wins-order (meaning t)))

pub told-stops : (g : Game) (h : ℕ) (s : Stops) (text : List ℕ) (a : Answered) → StopsAre g s
    → text ≡ stops_text s.left s.right → shown a ≡ answer text → a.handle ≡ Some h → Tells g h asking.Stops a
told-stops g h s text a w n e f = tells-answer g h asking.Stops text a e f (λ t is. tt) (λ t is d.
    let k = ap (form_stops.stops d) is ∙ equal_stops d d (can (meaning t)) (meaning t) (can-equal (meaning t)) in
    ap answer (n ∙ ap (λ z. stops_text z s.right) (w.left d ∙ ap (λ (z : form_stops.Stops). z.left) k)
    ∙ ap (stops_text (form_stops.stops d (meaning t)).left) (w.right d ∙ ap (λ (z : form_stops.Stops). z.right) k)))

pub drawn-some : {A : Type 0} (part : Part) (g : Game) (o : Option (String A)) (text : String A) → o ≡ Some text → IsDrawn part g o
    → (¬ NeedsMore places g) × ((p : Walls) × IsThermograph g p × (string_bytes text ≡ part_text part p))
drawn-some {A} part g o text e d = let P : Option (String A) → Type 0 = λ z. IsDrawn part g z in subst P e d

pub drawn-none : {A : Type 0} (part : Part) (g : Game) (o : Option (String A)) → o ≡ None → IsDrawn part g o
    → NeedsMore places g × (20 < depth_of g)
drawn-none {A} part g o e d = let P : Option (String A) → Type 0 = λ z. IsDrawn part g z in subst P e d

part-answer : (part : Part) (t : Tree) (text : List ℕ) → ¬ NeedsMore places (can (meaning t))
    → (p : Walls) → IsThermograph (meaning t) p → text ≡ part_text part p → IsAnswerTo (part_asked part t) (answer text)
part-answer parts.Mean t text n p is e = inr (n, (p, is, ap answer e))
part-answer parts.Temp t text n p is e = inr (n, (p, is, ap answer e))
part-answer parts.Whole t text n p is e = inr (n, (p, is, ap answer e))

part-refusal : (part : Part) (t : Tree) → NeedsMore places (can (meaning t)) → IsAnswerTo (part_asked part t) too_fine
part-refusal parts.Mean t n = inl (n, refl)
part-refusal parts.Temp t n = inl (n, refl)
part-refusal parts.Whole t n = inl (n, refl)

part-deep : (part : Part) (t : Tree) → (NeedsMore places (can (meaning t)) → 20 < depth_of (can (meaning t))) → IsDeep (part_asked part t)
part-deep parts.Mean t h = h
part-deep parts.Temp t h = h
part-deep parts.Whole t h = h

pub told-part : (g : Game) (h : ℕ) (part : Part) (text : List ℕ) (a : Answered)
    → (¬ NeedsMore places g) × ((p : Walls) × IsThermograph g p × (text ≡ part_text part p)) → shown a ≡ answer text
    → a.handle ≡ Some h → Tells g h (asking.Picture part) a
told-part g h part text a (n, (p, is, e)) s f = tells-answer g h (asking.Picture part) text a s f
    (λ t k. part-deep part t (λ m. let N : Game → Type 0 = λ z. ¬ NeedsMore places z in absurd (subst N k n m))) (λ t k.
    let N : Game → Type 0 = λ z. ¬ NeedsMore places z in
    let P : Game → Type 0 = λ z. IsThermograph z p in
    part-answer part t text (subst N k n) p (equal-thermograph (can (meaning t)) (meaning t) p (can-equal (meaning t)) (subst P k is)) e)

pub told-too_fine : (g : Game) (h : ℕ) (part : Part) (a : Answered) → NeedsMore places g × (20 < depth_of g) → IsRefusedBy too_fine a
    → Tells g h (asking.Picture part) a
told-too_fine g h part a (n, deep) r = record {
  text = λ t k.
      rw r.text (part-refusal part t (rw (← k) n));
  deep = λ t k. part-deep part t (λ _. rw (← k) deep);
  handle = r.handle ∙ ap (λ (b : Bool). if b then None else Some h) (sym (ap (λ (z : Piece). z.refused) r.text));
}

-- ---- questions about one expression

same-items : (limit : ℕ) (asked : Asked) (t : Tree) → items limit t ≡ question_items limit (asked_of asked t)
same-items limit asking.Value t = refl
same-items limit asking.Outcome t = refl
same-items limit asking.Stops t = refl
same-items limit (asking.Picture parts.Mean) t = refl
same-items limit (asking.Picture parts.Temp) t = refl
same-items limit (asking.Picture parts.Whole) t = refl

same-fault : (asked : Asked) (t : Tree) → fault_in t ≡ question_fault (asked_of asked t)
same-fault asking.Value t = refl
same-fault asking.Outcome t = refl
same-fault asking.Stops t = refl
same-fault (asking.Picture parts.Mean) t = refl
same-fault (asking.Picture parts.Temp) t = refl
same-fault (asking.Picture parts.Whole) t = refl

same-first : (asked : Asked) (t : Tree) → t ≡ first_of (asked_of asked t)
same-first asking.Value t = refl
same-first asking.Outcome t = refl
same-first asking.Stops t = refl
same-first (asking.Picture parts.Mean) t = refl
same-first (asking.Picture parts.Temp) t = refl
same-first (asking.Picture parts.Whole) t = refl

handle-told : {R : Type 0} (s : State Meant R) (q : Question) (h : ℕ) (refused : Bool) (handle : Option ℕ)
    → handle ≡ (if refused then None else Some h) → StandsFor s h (can (meaning (first_of q))) → HandleIs s q refused handle
handle-told s q h true handle e stands = e
handle-told s q h false handle e stands =
    rw e stands

module _ {R : Type 0} (s t u : State Meant (WorkRest R)) (asked : Asked) (e : Tree) (h : ℕ)
    (evaluated : Evaluates s t e (Ok h)) (spends : Spends 0 t u) where
  made_for : Makes s u (question_items s.rest.limit (asked_of asked e))
  made_for =
      let P : List Item → Type 0 = λ z. Makes s u z in
      subst P (same-items s.rest.limit asked e) (makes_spends s t u (items s.rest.limit e) evaluated.1.1 spends)

  pub answers-told : (a : Answered) → Tells (game_at t h) h asked a → Answers s u (asked_of asked e) (Ok a)
  answers-told a is = (
    sym (same-fault asked e) ∙ evaluated.0,
    (
      record {
        text = is.text e (stands_game t h (can (meaning e)) evaluated.1.0);
        value = handle-told u (asked_of asked e) h a.refused a.handle is.handle
            (rw (← (same-first asked e)) (stands_later t u spends.known h (can (meaning e)) evaluated.1.0));
        deep = is.deep e (stands_game t h (can (meaning e)) evaluated.1.0);
      },
      made_for,
    ),
  )

  pub answers-memory : Halts s u Memory (question_items s.rest.limit (asked_of asked e))
  answers-memory = stops_memory s u (question_items s.rest.limit (asked_of asked e))
      (question_items s.rest.limit (asked_of asked e)) made_for

pub answers-halted : {R : Type 0} (s t : State Meant (WorkRest R)) (asked : Asked) (e : Tree) (cause : NoValue)
    → Evaluates s t e (Err cause) → Answers s t (asked_of asked e) (Err cause)
answers-halted s t asked e cause h =
    lacks_fault s t (fault_in e) (question_fault (asked_of asked e)) (question_items s.rest.limit (asked_of asked e)) cause
    (same-fault asked e) (lacks_items s t (fault_in e) (items s.rest.limit e) (question_items s.rest.limit (asked_of asked e))
    cause (same-items s.rest.limit asked e) h)

-- ---- questions about two expressions

-- what is told of the two handles
pub told-two : (h : ℕ) (Is : Piece → Type 0) (a : Answered) (text : List ℕ) → shown a ≡ answer text → a.handle ≡ Some h
    → Is (answer text) → TellsTwo h Is a
told-two h Is a text e f is = record {
  text = subst Is (sym e) is;
  handle = f ∙ ap (λ (b : Bool). if b then None else Some h) (sym (ap (λ (z : Piece). z.refused) e));
}

pub told-too_long : (g h : Game) (v : ℕ) (a : Answered) → IsLong g h → IsRefusedBy too_long a → TellsTwo v (IsProofTold g h) a
told-too_long g h v a long r = record {
  text = subst (IsProofTold g h) (sym r.text) (inl (long, refl));
  handle = r.handle ∙ ap (λ (b : Bool). if b then None else Some v) (sym (ap (λ (z : Piece). z.refused) r.text));
}

pub told-proof : (g h : Game) (v : ℕ) (a : Answered) (text : List ℕ) → shown a ≡ answer text → a.handle ≡ Some v
    → text ≡ proof_answer g h → IsShort g h → TellsTwo v (IsProofTold g h) a
told-proof g h v a text e f t short =
    told-two v (IsProofTold g h) a text e f (inr ((λ l. absurd (omega (arith, l, short))), ap answer t))

pub told-check : (g h : Game) (v : ℕ) (proof : List ℕ) (a : Answered) (text : List ℕ) (b : Bool) → shown a ≡ answer text
    → a.handle ≡ Some v → text ≡ yes_or_no b → (IsTrue b ↔ IsProofOf g h proof) → TellsTwo v (IsChecked g h proof) a
told-check g h v proof a text true e f t iff = told-two v (IsChecked g h proof) a text e f (inl (iff.0 refl, ap answer t))
told-check g h v proof a text false e f t iff =
    told-two v (IsChecked g h proof) a text e f (inr ((λ p. let x = iff.1 p in cc), ap answer t))

compared-forms : (a b : Game) (reply : Piece) → IsCompared (can a) (can b) reply → IsCompared a b reply
compared-forms a b reply e =
    e ∙ ap (λ k. answer (comparison k (le (can b) (can a)))) (le-forms a b)
    ∙ ap (λ k. answer (comparison (le a b) k)) (le-forms b a)

same-items_of_two : (limit : ℕ) (asked : AskedOfTwo) (a b : Tree)
    → items limit a ++ items limit b ≡ question_items limit (asked_of_two asked a b)
same-items_of_two limit Order a b = refl
same-items_of_two limit Proof a b = refl
same-items_of_two limit (Check text) a b = refl

same-fault_of_two : (asked : AskedOfTwo) (a b : Tree)
    → first_of_two (fault_in a) (fault_in b) ≡ question_fault (asked_of_two asked a b)
same-fault_of_two Order a b = refl
same-fault_of_two Proof a b = refl
same-fault_of_two (Check text) a b = refl

same-first_of_two : (asked : AskedOfTwo) (a b : Tree) → a ≡ first_of (asked_of_two asked a b)
same-first_of_two Order a b = refl
same-first_of_two Proof a b = refl
same-first_of_two (Check text) a b = refl

-- what is told of the values is told of what the expressions mean
told-answer : (asked : AskedOfTwo) (a b : Tree) (reply : Piece) → IsToldOfTwo asked (can (meaning a)) (can (meaning b)) reply
    → IsAnswerTo (asked_of_two asked a b) reply
told-answer Order a b reply is = compared-forms (meaning a) (meaning b) reply is
told-answer Proof a b reply is = is
told-answer (Check text) a b reply is = is

no-deep : (asked : AskedOfTwo) (a b : Tree) → IsDeep (asked_of_two asked a b)
no-deep Order a b = tt
no-deep Proof a b = tt
no-deep (Check text) a b = tt

-- s before, t with the two values, u after what is told of them
module _ {R : Type 0} (s t u : State Meant (WorkRest R)) (asked : AskedOfTwo) (a b : Tree) (hs : ℕ × ℕ)
    (both : EvaluatesTwo s t a b (Ok hs)) (spends : Spends 0 t u) where
  both_spend : Makes s u (question_items s.rest.limit (asked_of_two asked a b))
  both_spend =
      rw (← (same-items_of_two s.rest.limit asked a b))
      (makes_spends s t u (items s.rest.limit a ++ items s.rest.limit b) both.1.1 spends)

  pub two-answered : (z : Answered) → TellsTwo hs.0 (IsToldOfTwo asked (game_at t hs.0) (game_at t hs.1)) z
      → Answers s u (asked_of_two asked a b) (Ok z)
  two-answered z tells = (
    sym (same-fault_of_two asked a b) ∙ both.0,
    (
      record {
        text = told-answer asked a b (shown z) (rw (← (stands_game t hs.1 (can (meaning b)) both.1.0.1))
            (rw (← (stands_game t hs.0 (can (meaning a)) both.1.0.0)) tells.text));
        value = handle-told u (asked_of_two asked a b) hs.0 z.refused z.handle tells.handle
            (rw (← (same-first_of_two asked a b)) (stands_later t u spends.known hs.0 (can (meaning a)) both.1.0.0));
        deep = no-deep asked a b;
      },
      both_spend,
    ),
  )

  pub two-memory : Halts s u Memory (question_items s.rest.limit (asked_of_two asked a b))
  two-memory = stops_memory s u (question_items s.rest.limit (asked_of_two asked a b))
      (question_items s.rest.limit (asked_of_two asked a b)) both_spend

pub two-halted : {R : Type 0} (s t : State Meant (WorkRest R)) (asked : AskedOfTwo) (a b : Tree) (cause : NoValue)
    → EvaluatesTwo s t a b (Err cause) → Answers s t (asked_of_two asked a b) (Err cause)
two-halted s t asked a b cause h =
    lacks_fault s t (first_of_two (fault_in a) (fault_in b)) (question_fault (asked_of_two asked a b))
    (question_items s.rest.limit (asked_of_two asked a b)) cause (same-fault_of_two asked a b)
    (lacks_items s t (first_of_two (fault_in a) (fault_in b)) (items s.rest.limit a ++ items s.rest.limit b)
    (question_items s.rest.limit (asked_of_two asked a b)) cause (same-items_of_two s.rest.limit asked a b) h)

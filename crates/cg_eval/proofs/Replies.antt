-- Replies, from answers and refusals.
use Rattle.std.proofs.Common.{◌≡◌, arith, refl, ap, sym, ◌∙◌, subst, ℕ, ◌⊎◌, inl, inr, Bool, true, false, List, ◌++◌, Option, Some, None, Result, Ok}
use Rattle.std.proofs.Common.{Err, pos, IfOk}
use Rattle.cg_cells.specs.Store.{Spends, State}
use Rattle.cg_form.specs.Game.{Game, number}
use Rattle.cg_form.specs.Order.{le}
use Rattle.cg_form.specs.Sum.{nothing}
use Rattle.cg_nodes.specs.Can.{can}
use Rattle.cg_form.proofs.EqualGames.{le-equal, zero_is}
use Rattle.cg_nodes.specs.CanLaw.{can-equal}
use Rattle.cg_nodes.specs.Meant.{Meant}
use Rattle.cg_nodes.proofs.Later.{stands_later}
use Rattle.cg_canon.specs.declared.fault.ValueFault.{ValueFault}
use Rattle.cg_canon.specs.declared.fault.ValueFault.TheVariants.{Depth, Full, Memory, Positions, Range}
use Rattle.cg_canon.specs.declared.rest.WorkRest.{WorkRest}
use Rattle.cg_canon.specs.Items.{AllPass, IsStopped, Item}
use Rattle.cg_canon.specs.Works.{Keeps, WorkOf, work_state}
use Rattle.cg_eval.specs.Meaning.{meaning}
use Rattle.cg_dyadic.specs.Number.{whole}
use Rattle.cg_canon.proofs.Keeping.{keeps_then, spends_keeps}
use Rattle.cg_grammar.specs.Lines.{IsColumn, IsComment, IsUnread, Reads, is_blank_line}
use Rattle.cg_query.specs.Tree.{Question, Tree}
use Rattle.cg_eval.specs.declared.answered.Answered.{Answered}
use Rattle.cg_eval.specs.declared.fault.GameFault.{GameFault}
use Rattle.cg_eval.specs.declared.fault.NoValue.{NoValue}
use Rattle.cg_eval.specs.Faults.{fault_in, first_of_two, question_fault}
use Rattle.cg_eval.specs.Items.{items, question_items}
use Rattle.cg_eval.specs.Progress.{Evaluates, EvaluatesTwo, Lacks, Makes, Stops}
use Rattle.cg_eval.specs.Refused.{IsRefusedBy, IsRefusedFor, IsRefusedOver}
use Rattle.cg_eval.specs.Reply.{IsReply, IsReplyBy, IsReplyTo, Piece, ill_formed, refusal_of, syntax_at}
use Rattle.cg_eval.specs.Shown.{Answers, HandleIs, HandleOf, IsAnswered, IsDeep, IsDeepAt, shown}
use Rattle.cg_eval.specs.Stores.{KeepsStore}
use Rattle.cg_eval.proofs.Steps.{first_none, first_some, lacks_fault, lacks_front, lacks_then, makes_then}
use Rattle.cg_eval.proofs.OneAnswer.{one-answer, some-answer}
use Rattle.cg_values.proofs.Fronts.{verdict-apart}
use Rattle.cg_eval.proofs.Verdicts.{verdict-decided, verdict-stopped}

-- ---- what compares games spends nothing and says how the games compare

pub makes_spends : {R : Type 0} (s t u : State Meant (WorkRest R)) (is : List Item) → Makes s t is → Spends 0 t u
    → Makes s u is
makes_spends {R} s t u is m k =
    record {
      passed = rw (ap (λ (r : WorkRest R). r.spent) k.rest) m.passed;
      more = let a = m.more in let b = k.spare in omega arith;
      keeps = keeps_then s t u m.keeps (spends_keeps 0 t u k);
    }

pub le-value_zero : (m : Game) → le (can m) (number (whole (pos 0))) ≡ le m nothing
le-value_zero m = le-equal (can m) (number (whole (pos 0))) m nothing (can-equal m) zero_is

pub zero-le_value : (m : Game) → le (number (whole (pos 0))) (can m) ≡ le nothing m
zero-le_value m = le-equal (number (whole (pos 0))) (can m) nothing m zero_is (can-equal m)

pub le-forms : (m n : Game) → le (can m) (can n) ≡ le m n
le-forms m n = le-equal (can m) (can n) m n (can-equal m) (can-equal n)

-- ---- replies to questions

handle-none : {R : Type 0} (s : State Meant R) (q : Question) (refused : Bool) (handle : Option ℕ) → refused ≡ true
    → handle ≡ None
    → HandleIs s q refused handle
handle-none s q refused handle e h = rw e h

some_none : {A : Type 0} {x : A} → Some x ≡ None → ⊥
some_none e = cc

-- of a question with an ill-formed board
pub answered-ill_formed : {R : Type 0} (share limit : ℕ) (s : State Meant R) (q : Question) (a : Answered)
    (fault : GameFault) → question_fault q ≡ Some fault
    → IsRefusedBy (ill_formed fault) a → IsAnswered share limit s q a
answered-ill_formed share limit s q a fault e r =
    record {
      reply = rw e r.text;
      handle = handle-none s q a.refused a.handle (ap (λ (p : Piece). p.refused) r.text) r.handle;
      deep = λ none total passed. absurd (some_none (sym e ∙ none));
    }

pub answered-made : {R : Type 0} (s t : State Meant (WorkRest R)) (q : Question) (a : Answered) → s.rest.spent ≡ 0
    → Answers s t q (Ok a) → IsAnswered s.rest.share s.rest.limit t q a
answered-made s t q a none (e, (is, made_items)) =
    record {
      reply = rw e (inl (t.rest.spent, rw (← none) made_items.passed, is.text));
      handle = is.value;
      deep = λ _ total passed. is.deep;
    }

stopped-reply : {R : Type 0} (s t : State Meant (WorkRest R)) (q : Question) (a : Answered) (fault : ValueFault)
    → s.rest.spent ≡ 0
    → question_fault q ≡ None → IsStopped fault s.rest.share s.rest.spent (question_items s.rest.limit q) t.rest.spent
    → IsRefusedBy (refusal_of fault) a → (refusal_of fault).refused ≡ true → IsAnswered s.rest.share s.rest.limit t q a
stopped-reply s t q a fault none e stopped r is_refusal =
    record {
      reply = rw e (inr (fault, t.rest.spent, rw (← none) stopped, r.text));
      handle = handle-none t q a.refused a.handle (ap (λ (p : Piece). p.refused) r.text ∙ is_refusal) r.handle;
      deep = λ _ total passed.
          absurd (verdict-apart fault s.rest.share 0 (question_items s.rest.limit q) total t.rest.spent passed (rw (← none) stopped));
    }

refused-item : {R : Type 0} (s t : State Meant (WorkRest R)) (q : Question) (a : Answered)
    (fault : ValueFault) → s.rest.spent ≡ 0
    → question_fault q ≡ None → Stops s t fault (question_items s.rest.limit q) → IsRefusedFor fault a
    → IsAnswered s.rest.share s.rest.limit t q a
refused-item s t q a Memory none e r f = absurd f
refused-item s t q a Range none e r f = stopped-reply s t q a Range none e r.refused f refl
refused-item s t q a (Full n) none e r f = stopped-reply s t q a (Full n) none e r.refused f refl
refused-item s t q a (Depth d) none e r f = stopped-reply s t q a (Depth d) none e r.refused f refl
refused-item s t q a Positions none e r f = stopped-reply s t q a Positions none e r.refused f refl

-- of a question of which an item is refused, where no board or heap is ill-formed
pub answered-refused : {R : Type 0} (s t : State Meant (WorkRest R)) (q : Question) (a : Answered) (fault : ValueFault)
    → s.rest.spent ≡ 0 → Stops s t fault (question_items s.rest.limit q) → IsRefusedOver (question_fault q) fault a
    → IsAnswered s.rest.share s.rest.limit t q a
answered-refused s t q a fault none r f = by (question_fault q) refl f
  where
    by : (o : Option GameFault) → question_fault q ≡ o → IsRefusedOver o fault a → IsAnswered s.rest.share s.rest.limit t q a
    by None e h = refused-item s t q a fault none e r h
    by (Some first) e h = answered-ill_formed s.rest.share s.rest.limit t q a first e h

-- ---- replies to lines

-- the reply to the one question that the line reads as
pub reply-read : (share limit : ℕ) (line : List ℕ) (q : Question) (reply : Piece) → ((p r : Question)
    → Reads line p → Reads line r → p ≡ r)
    → Reads line q → IsReplyTo share limit q reply → IsReply share limit line reply
reply-read share limit line q reply one reads is = record {
  read = λ p h. rw (← (one q p reads h)) is;
  unread = λ c u. absurd (u.no_question q reads);
}

-- the reply with the one column of a line that reads as no question
pub reply-unread : (share limit : ℕ) (line : List ℕ) (c : ℕ) (reply : Piece) → ((d e : ℕ) → IsColumn line d
    → IsColumn line e → d ≡ e)
    → IsUnread line c → reply ≡ syntax_at c → IsReply share limit line reply
reply-unread share limit line c reply one unread same = record {
  read = λ q h. absurd (unread.no_question q h);
  unread = λ d u. same ∙ ap syntax_at (one c d unread.at u.at);
}

pub handle-read : {R : Type 0} (share limit : ℕ) (s : State Meant R) (line : List ℕ) (q : Question) (a : Answered)
    → ((p r : Question) → Reads line p → Reads line r → p ≡ r) → Reads line q → IsAnswered share limit s q a
    → HandleOf s line a.refused a.handle
handle-read share limit s line q a one reads is = record {
  read = λ p h. let P : Question → Type 0 = λ r. HandleIs s r a.refused a.handle in subst P (one q p reads h) is.handle;
  refusal = λ e. let P : Bool → Type 0 = λ b. HandleIs s q b a.handle in subst P e is.handle;
}

pub handle-unread : {R : Type 0} (s : State Meant R) (line : List ℕ) (c : ℕ) (a : Answered) → IsUnread line c
    → a.handle ≡ None
    → HandleOf s line a.refused a.handle
handle-unread s line c a unread none = record {
  read = λ q h. absurd (unread.no_question q h);
  refusal = λ e. none;
}

pub deep-read : {R : Type 0} (share limit : ℕ) (s : State Meant R) (line : List ℕ) (q : Question) (a : Answered)
    → ((p r : Question) → Reads line p → Reads line r → p ≡ r) → Reads line q → IsAnswered share limit s q a
    → IsDeepAt share limit line
deep-read share limit s line q a one reads is p h =
    let P : Question → Type 0 = λ r. question_fault r ≡ None → (total : ℕ) → AllPass share 0 (question_items limit r) total → IsDeep r in
    subst P (one q p reads h) is.deep

pub deep-unread : (share limit : ℕ) (line : List ℕ) (c : ℕ) → IsUnread line c → IsDeepAt share limit line
deep-unread share limit line c unread q h = absurd (unread.no_question q h)

-- ---- one reply

pub one-reply_by : (o : Option GameFault) (share limit : ℕ) (q : Question) (p r : Piece) → IsReplyBy o share limit q p
    → IsReplyBy o share limit q r → p ≡ r
one-reply_by (Some fault) share limit q p r a b = a ∙ sym b
one-reply_by None share limit q p r (inl a) (inl b) = one-answer q p r a.2 b.2
one-reply_by None share limit q p r (inl a) (inr b) = absurd (verdict-apart b.0 share 0
    (question_items limit q) a.0 b.1 a.1 b.2)
one-reply_by None share limit q p r (inr a) (inl b) = absurd (verdict-apart a.0 share 0
    (question_items limit q) b.0 a.1 b.1 a.2)
one-reply_by None share limit q p r (inr a) (inr b) =
    a.3 ∙ ap refusal_of (verdict-stopped a.0 b.0 share 0 (question_items limit q) a.1 b.1 a.2 b.2).0 ∙ sym b.3

pub some-reply_by : (o : Option GameFault) (share limit : ℕ) (q : Question) → (p : Piece) × IsReplyBy o share limit q p
some-reply_by (Some fault) share limit q = (ill_formed fault, refl)
some-reply_by None share limit q = elim (verdict-decided share 0 (question_items limit q)) [
  | inl a ↦ (let (p, is) = some-answer q in (p, inl (a.0, a.1, is)))
  | inr r ↦ (refusal_of r.0, inr (r.0, r.1, r.2, refl))
]

pub one-reply : (share limit : ℕ) (line : List ℕ) (p r : Piece) → is_blank_line line ≡ false → ¬ IsComment line
    → ((q : Question) × Reads line q) ⊎ (((q : Question) → ¬ Reads line q) × ((c : ℕ) × IsColumn line c))
    → IsReply share limit line p → IsReply share limit line r → p ≡ r
one-reply share limit line p r blank comment (inl (q, reads)) a b =
    one-reply_by (question_fault q) share limit q p r (a.read q reads) (b.read q reads)
one-reply share limit line p r blank comment (inr (none, (c, at))) a b =
    let u : IsUnread line c = record { not_blank = blank; not_comment = comment; no_question = none; at = at } in
    a.unread c u ∙ sym (b.unread c u)

pub some-reply : (share limit : ℕ) (line : List ℕ)
    → ((p r : Question) → Reads line p → Reads line r → p ≡ r) → ((d e : ℕ) → IsColumn line d → IsColumn line e → d ≡ e)
    → is_blank_line line ≡ false → ¬ IsComment line
    → ((q : Question) × Reads line q) ⊎ (((q : Question) → ¬ Reads line q) × ((c : ℕ) × IsColumn line c))
    → (p : Piece) × IsReply share limit line p
some-reply share limit line one one_column blank comment (inl (q, reads)) =
    let (p, is) = some-reply_by (question_fault q) share limit q in (p, reply-read share limit line q p one reads is)
some-reply share limit line one one_column blank comment (inr (none, (c, at))) =
    let u : IsUnread line c = record { not_blank = blank; not_comment = comment; no_question = none; at = at } in
    (syntax_at c, reply-unread share limit line c (syntax_at c) one_column u refl)

-- ---- two expressions

-- the first expression's items, then the second's
pub both_made : {R : Type 0} (s t u : State Meant (WorkRest R)) (a b : Tree) (v w : ℕ) → Evaluates s t a (Ok v)
    → Evaluates t u b (Ok w) → EvaluatesTwo s u a b (Ok (v, w))
both_made s t u a b v w (first_sound, (first, first_made)) (second_sound, (second, second_made)) = (
  first_none (fault_in a) (fault_in b) first_sound ∙ second_sound,
  (
    (stands_later t u second_made.keeps.known v (can (meaning a)) first, second),
    makes_then s t u (items s.rest.limit a) (items s.rest.limit b) first_made
        (rw (← first_made.keeps.limit) second_made),
  ),
)

pub first_stopped : {R : Type 0} (s t : State Meant (WorkRest R)) (a b : Tree) (cause : NoValue)
    → Evaluates s t a (Err cause) → EvaluatesTwo s t a b (Err cause)
first_stopped s t a b cause r =
    lacks_front s t (fault_in a) (first_of_two (fault_in a) (fault_in b)) (items s.rest.limit a) (items s.rest.limit b) cause
    (λ x f. first_some (fault_in a) (fault_in b) x f) r

pub second_stopped : {R : Type 0} (s t u : State Meant (WorkRest R)) (a b : Tree) (v : ℕ) (cause : NoValue)
    → Evaluates s t a (Ok v) → Evaluates t u b (Err cause) → EvaluatesTwo s u a b (Err cause)
second_stopped s t u a b v cause (sound, (first, first_made)) r =
    lacks_fault s u (fault_in b) (first_of_two (fault_in a) (fault_in b)) (items s.rest.limit a ++ items s.rest.limit b) cause
    (sym (first_none (fault_in a) (fault_in b) sound))
    (lacks_then s t u (fault_in b) (items s.rest.limit a) (items s.rest.limit b) cause first_made
    (rw (← first_made.keeps.limit) r))

-- ---- the handle of a work is one of its store

pub handle-store : {S R : Type 0} (state : S
    → State Meant R) (w : WorkOf S) (q : Question) (refused : Bool) (handle : Option ℕ)
    → HandleIs (work_state state w) q refused handle → HandleIs (state w.store.now) q refused handle
handle-store state w q true handle h = h
handle-store state w q false None h = absurd h
handle-store state w q false (Some i) h = h

pub if_ok_map : {T E : Type 0} (P Q : T → Type 0) (r : Result T E) → ((x : T) → P x → Q x) → IfOk r P → IfOk r Q
if_ok_map P Q (Ok x) f h = f x h
if_ok_map P Q (Err e) f h = tt

-- the reply on a work is one on its store
pub answered-store : {S R : Type 0} (state : S
    → State Meant R) (w : WorkOf S) (x : S) (q : Question) (a : Answered) (share limit m n : ℕ)
    → x ≡ w.store.now → m ≡ share → n ≡ limit → IsAnswered m n (work_state state w) q a
    → IsAnswered share limit (state x) q a
answered-store state w x q a share limit m n e f g is =
    record {
      reply = rw (← g) (rw (← f) is.reply);
      handle = rw e (handle-store state w q a.refused a.handle is.handle);
      deep = rw (← g) (rw (← f) is.deep);
    }

pub keeps-store : {S R : Type 0} (state : S → State Meant R) (w v : WorkOf S) (x y : S) → w.store.now ≡ x
    → y ≡ v.store.now
    → Keeps (work_state state w) (work_state state v) → KeepsStore (state x) (state y)
keeps-store state w v x y e f k =
    rw (sym e, f) (record { known = k.known; noted = k.noted; rest = k.of_store })

pub keeps_store-same : {X R : Type 0} (s : State X R) → KeepsStore s s
keeps_store-same s = record { known = λ i x e. e; noted = λ x h. h; rest = refl }

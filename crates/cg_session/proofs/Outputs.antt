-- The output of the lines so far, with that of the lines that are left, is the output of all; and lines have one output.
use Rattle.std.proofs.Common.{◌≡◌, ℕ, zero, suc, ◌+◌, arith, Bool, cond, true, false, List, [], ◌∷◌, drop, Some, refl, ap, sym, subst, ◌∙◌}
use Rattle.std.proofs.Common.{append_assoc, append-nil}
use Rattle.std.specs.Prelude.{◌≤◌, slice_get}
use Rattle.cg_cells.proofs.Levels.{same_Some}
use Rattle.cg_words.specs.declared.settings.Settings.{Settings}
use Rattle.cg_eval.specs.Reply.{Piece, IsReplyTo}
use Rattle.cg_query.specs.Tree.{Question}
use Rattle.cg_syntax.specs.Session.{Resolved, Asked_of, Syntax_at, Too_large, Unknown_at}
use Rattle.cg_eval.specs.Shown.{shown}
use Rattle.cg_eval.specs.declared.answered.Answered.{Answered}
use Rattle.cg_session.specs.Output.{Output, joined, nothing, numbered, IsOutput, IsOutputOf}
use Rattle.cg_session.specs.Replies.{IsReplyFor}
use Rattle.cg_session.specs.Outputs.{AreReplies}

-- ---- joined

joined_assoc : (a b c : Output) → joined (joined a b) c ≡ joined a (joined b c)
joined_assoc a b c =
    let sums : a.refused + b.refused + c.refused ≡ a.refused + (b.refused + c.refused) = omega arith in
    rw (append_assoc a.text b.text c.text, sums) refl

joined-nothing : (p : Output) → joined p nothing ≡ p
joined-nothing p = let sum : p.refused + 0 ≡ p.refused = omega arith in rw (append-nil p.text, sum) refl

-- one more line was refused, or none
pub counted : (old new : Output) (n i : ℕ) (reply : Piece) → new ≡ joined old (numbered n reply) → old.refused ≤ i
    → new.refused ≤ i + 1
counted old new n i reply same few = rw (ap (λ (o : Output). o.refused) same) (by_refused reply.refused)
  where
    by_refused : (b : Bool) → old.refused + cond b 1 0 ≤ i + 1
    by_refused true = omega (arith, few)
    by_refused false = omega (arith, few)

-- ---- the output of all lines

-- what was written, with any output of the lines that are left, is the output of all
abbrev pub Completes : ℕ → ℕ → List (ℕ × Resolved) → Output → List (ℕ × Resolved) → Type 0
Completes share positions left done all =
    (tail : Output) → IsOutputOf share positions left tail → IsOutputOf share positions all (joined done tail)

drop_at : {A : Type 0} (xs : List A) (i : ℕ) (x : A) → slice_get xs i ≡ Some x → drop i xs ≡ x ∷ drop (i + 1) xs
drop_at {A} [] i x at = absurd cc
drop_at {A} (y ∷ ys) zero x at = ap (λ z. z ∷ ys) (same_Some at)
drop_at {A} (y ∷ ys) (suc i) x at =
    let next : suc i + 1 ≡ suc (i + 1) = omega arith in
    let cut : drop (suc i + 1) (y ∷ ys) ≡ drop (i + 1) ys = ap (λ (k : ℕ). drop k (y ∷ ys)) next in
    drop_at ys i x at ∙ ap (λ (l : List A). x ∷ l) (sym cut)

pub Completes-line : (share positions : ℕ) (lines : List (ℕ × Resolved)) (answers : List Answered) (i : ℕ) (line : ℕ × Resolved)
    (answer : Answered) (old new : Output) → slice_get lines i ≡ Some line → slice_get answers i ≡ Some answer
    → new ≡ joined old (numbered line.0 (shown answer)) → AreReplies share positions lines answers
    → Completes share positions (drop i lines) old lines → Completes share positions (drop (i + 1) lines) new lines
unfolding IsOutputOf
Completes-line share positions lines answers i line answer old new at has same replies completes tail is_tail =
    let own = numbered line.0 (shown answer) in
    let moved : joined new tail ≡ joined old (joined own tail) =
    ap (λ (p : Output). joined p tail) same ∙ joined_assoc old own tail in
    let first : IsOutputOf share positions (line ∷ drop (i + 1) lines) (joined own tail) =
    (shown answer, tail, replies i line answer at has, is_tail, refl) in
    subst (λ (p : Output). IsOutputOf share positions lines p) (sym moved)
    (completes (joined own tail)
    (subst (λ ls. IsOutputOf share positions ls (joined own tail)) (sym (drop_at lines i line at)) first))

pub Completes-all : (share positions : ℕ) (done : Output) (all : List (ℕ × Resolved)) → Completes share positions [] done all
    → IsOutputOf share positions all done
unfolding IsOutputOf
Completes-all share positions done all completes =
    subst (λ (p : Output). IsOutputOf share positions all p) (joined-nothing done) (completes nothing refl)

-- ---- one output

-- a question has one reply, on a share and with a positions limit
abbrev pub HasOneReply : ℕ → ℕ → Type 0
HasOneReply share positions = (q : Question) (p r : Piece) → IsReplyTo share positions q p → IsReplyTo share positions q r → p ≡ r

one_reply : (share positions : ℕ) → HasOneReply share positions → (line : Resolved) (p r : Piece) → IsReplyFor share positions line p
    → IsReplyFor share positions line r → p ≡ r
unfolding IsReplyFor
one_reply share positions one (Asked_of q) p r a b = one q p r a b
one_reply share positions one (Syntax_at column) p r a b = a ∙ sym b
one_reply share positions one (Unknown_at column) p r a b = a ∙ sym b
one_reply share positions one Too_large p r a b = a ∙ sym b

pub IsOutputOf-unique : (share positions : ℕ) → HasOneReply share positions → (lines : List (ℕ × Resolved))
    → (p q : Output) → IsOutputOf share positions lines p → IsOutputOf share positions lines q → p ≡ q
unfolding IsOutputOf
IsOutputOf-unique share positions one [] p q a b = a ∙ sym b
IsOutputOf-unique share positions one (line ∷ lines) p q (r, rest, is_r, is_rest, a) (s, rest', is_s, is_rest', b) =
    let same_reply : r ≡ s = one_reply share positions one line.1 r s is_r is_s in
    let same_rest : rest ≡ rest' = IsOutputOf-unique share positions one lines rest rest' is_rest is_rest' in
    a ∙ ap (λ (x : Piece). joined (numbered line.0 x) rest) same_reply ∙ ap (joined (numbered line.0 s)) same_rest ∙ sym b

-- lines that are the same have the same output
pub same_output : (s : Settings) (rs qs : List (ℕ × Resolved)) (out : Output) → rs ≡ qs → IsOutput s rs out → IsOutput s qs out
same_output s rs qs out e is = subst (λ (z : List (ℕ × Resolved)). IsOutput s z out) e is

-- ---- some output

some_reply : (share positions : ℕ) → ((q : Question) → (p : Piece) × IsReplyTo share positions q p) → (line : Resolved)
    → (p : Piece) × IsReplyFor share positions line p
unfolding IsReplyFor
some_reply share positions some (Asked_of q) = some q
some_reply share positions some (Syntax_at column) = (_, refl)
some_reply share positions some (Unknown_at column) = (_, refl)
some_reply share positions some Too_large = (_, refl)

pub IsOutputOf-some : (share positions : ℕ) → ((q : Question) → (p : Piece) × IsReplyTo share positions q p)
    → (lines : List (ℕ × Resolved)) → (out : Output) × IsOutputOf share positions lines out
unfolding IsOutputOf
IsOutputOf-some share positions some [] = (nothing, refl)
IsOutputOf-some share positions some (line ∷ lines) =
    let (reply, is_reply) = some_reply share positions some line.1 in
    let (rest, is_rest) = IsOutputOf-some share positions some lines in
    (_, (reply, rest, is_reply, is_rest, refl))

-- A line of a list, an answer that is good for it, and what a worker holds.
use Rattle.std.proofs.Common.{◌≡◌, ℕ, zero, suc, ◌<◌, List, [], ◌∷◌, map, length, get_or, Bool, true, false, Option, Some, None, Result, Ok, Err}
use Rattle.std.proofs.Common.{IfOk, refl, sym, ap, ◌∙◌, subst, arith}
use Rattle.std.specs.Prelude.{slice_get}
use Rattle.cg_cells.specs.Store.{State}
use Rattle.cg_cells.proofs.Levels.{same_Some}
use Rattle.cg_nodes.specs.Meant.{Meant}
use Rattle.cg_canon.specs.declared.cache.Cache.{Cache}
use Rattle.cg_canon.specs.Cache.{CacheHolds, knowing}
use Rattle.cg_canon.proofs.Holding.{cache_later}
use Rattle.cg_query.specs.Tree.{Question}
use Rattle.cg_syntax.specs.Session.{Resolved, Asked_of, Syntax_at, Too_large, Unknown_at}
use Rattle.cg_eval.specs.declared.answered.Answered.{Answered}
use Rattle.cg_eval.specs.Reply.{syntax_at}
use Rattle.cg_eval.specs.Shown.{shown, HandleIs, IsAnswered}
use Rattle.cg_session.specs.Good.{IsGood}
use Rattle.cg_session.specs.Replies.{HandleFor, IsReplyFor, too_large, unknown_at}

-- ---- a line of a list

-- the n-th of the values of a list, by what an index of the list finds
pub value_at : {V W : Type 0} (value : V → W) (list : List V) (n : ℕ) (d : V) → n < length list
    → slice_get (map value list) n ≡ Some (value (get_or list n d))
value_at value [] n d lt = absurd (omega arith)
value_at value (x ∷ xs) zero d lt = refl
value_at value (x ∷ xs) (suc n) d lt = value_at value xs n d (omega arith)

-- the n-th item of a list, by what an index found
pub item_at : {V : Type 0} (list : List V) (n : ℕ) (v : V) → n < length list → v ≡ get_or list n v → slice_get list n ≡ Some v
item_at [] n v lt e = absurd (omega arith)
item_at (x ∷ xs) zero v lt e = ap Some (sym e)
item_at (x ∷ xs) (suc n) v lt e = item_at xs n v (omega arith) e

-- the n-th of the values of a list, by what an index found
pub value_found : {V W : Type 0} (value : V → W) (list : List V) (n : ℕ) (v : V) → n < length list → v ≡ get_or list n v
    → slice_get (map value list) n ≡ Some (value v)
value_found value list n v lt e = value_at value list n v lt ∙ ap (λ x. Some (value x)) (sym e)

-- ---- an answer that is good for it

handle_known : {R : Type 0} (s : State Meant R) (q : Question) (refused : Bool) (handle : Option ℕ) → HandleIs s q refused handle
    → HandleIs (knowing s.known) q refused handle
handle_known s q true handle h = h
handle_known s q false None h = h
handle_known s q false (Some id) h = h

line_known : {R : Type 0} (s : State Meant R) (line : Resolved) (refused : Bool) (handle : Option ℕ) → HandleFor s line refused handle
    → HandleFor (knowing s.known) line refused handle
line_known s (Asked_of q) refused handle h = handle_known s q refused handle h
line_known s (Syntax_at column) refused handle h = h
line_known s (Unknown_at column) refused handle h = h
line_known s Too_large refused handle h = h

-- an answer to the n-th line is good for whatever is the n-th line
pub good_line : {R E : Type 0} (s : State Meant R) (share positions : ℕ) (line : ℕ × Resolved) (r : Result Answered E)
    → IfOk r (λ a. IsReplyFor share positions line.1 (shown a)) → IfOk r (λ a. HandleFor s line.1 a.refused a.handle)
    → (lines : List (ℕ × Resolved)) (n : ℕ) → slice_get lines n ≡ Some line
    → IfOk r (λ a. (l : ℕ × Resolved) → slice_get lines n ≡ Some l → IsGood share positions l.1 a s.known)
good_line s share positions line (Ok a) reply handle lines n at = λ l e.
    subst (λ (t : ℕ × Resolved). IsGood share positions t.1 a s.known) (same_Some (sym at ∙ e))
    (record { reply = reply; handle = line_known s line.1 a.refused a.handle handle })
good_line s share positions line (Err e) reply handle lines n at = tt

-- ---- what a worker holds, under what is known and on a store that knows it

module _ {R : Type 0} (s : State Meant R) (h : Cache) where
  pub cache_on : CacheHolds (knowing s.known) h → CacheHolds s h
  cache_on k = cache_later (knowing s.known) s h (λ i x e. e) k

  pub cache_under : {A E : Type 0} (r : Result A E) → CacheHolds s h → IfOk r (λ _. CacheHolds (knowing s.known) h)
  cache_under (Ok a) k = cache_later s (knowing s.known) h (λ i x e. e) k
  cache_under (Err e) k = tt

-- ---- lines that ask something and lines that don't

pub asked_reply : {R E : Type 0} (share positions : ℕ) (s : State Meant R) (q : Question) (r : Result Answered E) → IfOk r (IsAnswered share positions s q)
    → IfOk r (λ a. IsReplyFor share positions (Asked_of q) (shown a))
unfolding IsReplyFor
asked_reply share positions s q (Ok a) is = is.reply
asked_reply share positions s q (Err e) is = tt

pub syntax_reply : {E : Type 0} (share positions column : ℕ) (r : Result Answered E) → IfOk r (λ a. shown a ≡ syntax_at column)
    → IfOk r (λ a. IsReplyFor share positions (Syntax_at column) (shown a))
unfolding IsReplyFor
syntax_reply share positions column (Ok a) e = e
syntax_reply share positions column (Err e) h = tt

pub unknown_reply : {E : Type 0} (share positions column : ℕ) (r : Result Answered E) → IfOk r (λ a. shown a ≡ unknown_at column)
    → IfOk r (λ a. IsReplyFor share positions (Unknown_at column) (shown a))
unfolding IsReplyFor
unknown_reply share positions column (Ok a) e = e
unknown_reply share positions column (Err e) h = tt

pub parts_reply : {E : Type 0} (share positions : ℕ) (r : Result Answered E) → IfOk r (λ a. shown a ≡ too_large)
    → IfOk r (λ a. IsReplyFor share positions Too_large (shown a))
unfolding IsReplyFor
parts_reply share positions (Ok a) e = e
parts_reply share positions (Err e) h = tt

-- the reply to what the line asks, in other words
pub reply_as : {E : Type 0} (share positions : ℕ) (line made : Resolved) (r : Result Answered E) → made ≡ line
    → IfOk r (λ a. IsReplyFor share positions line (shown a)) → IfOk r (λ a. IsReplyFor share positions made (shown a))
reply_as share positions line made r e h = subst (λ (z : Resolved). IfOk r (λ a. IsReplyFor share positions z (shown a))) (sym e) h

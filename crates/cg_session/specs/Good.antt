-- Good answers to lines.
use Rattle.std.specs.Prelude.{◌≡◌, ℕ, Bool, true, false, List, Option, Some, None, slice_get}
use Rattle.std.specs.FinMap as map
use Rattle.std.specs.Ordering.{nat_cmp}
use Rattle.cg_cells.specs.Meaning.{Grows}
use Rattle.cg_nodes.specs.Meant.{Meant}
use Rattle.cg_canon.specs.Cache.{knowing}
use Rattle.cg_eval.specs.declared.answered.Answered.{Answered}
use Rattle.cg_query.specs.Tree.{Question}
use Rattle.cg_eval.specs.Shown.{shown, HandleIs}
use Rattle.cg_syntax.specs.Session.{Resolved, Asked_of, Syntax_at, Too_large, Unknown_at}
use Rattle.cg_session.specs.Replies.{HandleFor, IsReplyFor}

-- The answer to a line of which this is made, on a share of so many cells: its text is the reply, and its handle is known to
-- be the value of the line's first expression, expanded.
pub record IsGood (share positions : ℕ) (line : Resolved) (a : Answered) (known : map.FinMap nat_cmp Meant) : Type 0 where
  pub reply : IsReplyFor share positions line (shown a)
  pub handle : HandleFor (knowing known) line a.refused a.handle

-- each of these answers is good for the line in its place
abbrev pub AreGood : ℕ → ℕ → List (ℕ × Resolved) → List Answered → map.FinMap nat_cmp Meant → Type 0
AreGood share positions lines answers known =
    (n : ℕ) (line : ℕ × Resolved) (answer : Answered) → slice_get lines n ≡ Some line → slice_get answers n ≡ Some answer
    → IsGood share positions line.1 answer known

-- an answer stays good when more is known
handle_stays : (f g : map.FinMap nat_cmp Meant) → Grows (map.get f) (map.get g) → (q : Question) (refused : Bool) (handle : Option ℕ)
    → HandleIs (knowing f) q refused handle → HandleIs (knowing g) q refused handle
handle_stays f g grows q true handle h = h
handle_stays f g grows q false None h = h
handle_stays f g grows q false (Some id) h = grows id _ h

line_stays : (f g : map.FinMap nat_cmp Meant) → Grows (map.get f) (map.get g) → (line : Resolved) (refused : Bool) (handle : Option ℕ)
    → HandleFor (knowing f) line refused handle → HandleFor (knowing g) line refused handle
line_stays f g grows (Asked_of q) refused handle h = handle_stays f g grows q refused handle h
line_stays f g grows (Syntax_at column) refused handle h = h
line_stays f g grows (Unknown_at column) refused handle h = h
line_stays f g grows Too_large refused handle h = h

pub good_stays : (share positions : ℕ) (line : Resolved) (a : Answered) (f g : map.FinMap nat_cmp Meant)
    → Grows (map.get f) (map.get g) → IsGood share positions line a f → IsGood share positions line a g
good_stays share positions line a f g grows G = record {
  reply = G.reply;
  handle = line_stays f g grows line a.refused a.handle G.handle;
}

-- What the code builds, without where it lies in memory.
use Rattle.std.specs.Prelude.{ℕ, ◌≡◌, List, Some, slice_get}
use Rattle.cg_eval.specs.Shown.{shown}
use Rattle.cg_eval.specs.declared.answered.Answered.{Answered}
use Rattle.cg_session.specs.declared.output.Output as code
use Rattle.cg_session.specs.Output.{Output}
use Rattle.cg_session.specs.Replies.{IsReplyFor}
use Rattle.cg_syntax.specs.Session.{Resolved}

abbrev pub output_of : code.Output → Output
output_of out = record { text = out.text.items; refused = out.refused }

-- each of these answers is the reply to the line in its place
abbrev pub AreReplies : ℕ → ℕ → List (ℕ × Resolved) → List Answered → Type 0
AreReplies share positions lines answers =
    (n : ℕ) (line : ℕ × Resolved) (answer : Answered) → slice_get lines n ≡ Some line → slice_get answers n ≡ Some answer
    → IsReplyFor share positions line.1 (shown answer)

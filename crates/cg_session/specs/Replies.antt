-- What is replied to a line of a session, by what is made of it.
use Rattle.std.specs.Prelude.{◌≡◌, ℕ, Bool, ◌++◌, Option, None, codes, decimal}
use Rattle.cg_cells.specs.Store.{State}
use Rattle.cg_nodes.specs.Meant.{Meant}
use Rattle.cg_eval.specs.Reply.{IsReplyTo, Piece, refusal, syntax_at}
use Rattle.cg_eval.specs.Shown.{HandleIs}
use Rattle.cg_syntax.specs.Session.{Resolved, Asked_of, Syntax_at, Too_large, Unknown_at}

-- the refusal of a line that uses a name at this column that no earlier line binds
abbrev pub unknown_at : ℕ → Piece
unknown_at column = refusal (codes "! name " ++ decimal column)

-- the refusal of a line that uses a name and whose expanded expressions are too large
abbrev pub too_large : Piece
too_large = refusal (codes "! parts")

-- the reply to the question that a line asks, on a share of so many cells and with so many positions at most in one list of
-- items; or why the line is refused
unfoldable pub IsReplyFor : ℕ → ℕ → Resolved → Piece → Type 0
IsReplyFor share positions (Asked_of q) reply = IsReplyTo share positions q reply
IsReplyFor share positions (Syntax_at column) reply = reply ≡ syntax_at column
IsReplyFor share positions (Unknown_at column) reply = reply ≡ unknown_at column
IsReplyFor share positions Too_large reply = reply ≡ too_large

-- A refused line has no handle, and any other has that of the value of its first expression, expanded.
abbrev pub HandleFor : {R : Type 0} → State Meant R → Resolved → Bool → Option ℕ → Type 0
HandleFor s (Asked_of q) refused handle = HandleIs s q refused handle
HandleFor s _ refused handle = handle ≡ None

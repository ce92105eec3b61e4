-- What sessions of the code stand for.
use Rattle.std.specs.Prelude.{ℕ, ◌≡◌, List, map}
use Rattle.cg_syntax.specs.Session.{AreClosedLines, IsSession, Resolved, Asked_of, Syntax_at, Unknown_at, Too_large, format_number, format_of}
use Rattle.cg_query.specs.Trees.{question_of}
use Rattle.cg_syntax.specs.declared.session.Asked as asked
use Rattle.cg_syntax.specs.declared.session.Asked.TheVariants as askeds
use Rattle.cg_syntax.specs.declared.session.Session.{Session}
use Rattle.cg_syntax.specs.declared.session.SessionLine.{SessionLine}

abbrev pub resolved_of : asked.Asked → Resolved
resolved_of (askeds.Query query) = Asked_of (question_of query)
resolved_of (askeds.Syntax column) = Syntax_at column
resolved_of (askeds.Unknown column) = Unknown_at column
resolved_of askeds.Parts = Too_large

-- a line's number and what is made of it
abbrev pub line_of : SessionLine → ℕ × Resolved
line_of l = (l.number, resolved_of l.asked)

-- the lines in order
abbrev pub lines_in : List SessionLine → List (ℕ × Resolved)
lines_in ls = map line_of ls

-- the text says this session, in which no question has a name
pub record IsRead (text : List ℕ) (s : Session) : Type 0 where
  pub format : s.format ≡ format_number (format_of text)
  pub lines : IsSession text (lines_in s.lines)
  pub closed : AreClosedLines (lines_in s.lines)

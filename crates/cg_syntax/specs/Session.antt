-- What a session says, line after line: the closed question that a line asks, or why it is refused.
use Rattle.std.specs.Prelude.{ℕ, Bool, true, false, cond, ◌&&◌, List, [], ◌∷◌, Option, Some, None, codes, reverse}
use Rattle.std.specs.Str.{bytes_eq}
use Rattle.cg_reading.specs.Readers.{skipped}
use Rattle.cg_reading.specs.Tokens.{blank}
use Rattle.cg_query.specs.Tree.{Tree, Question, Statement, asks, defines}
use Rattle.cg_grammar.specs.Lines.{ReadsIn, IsColumnIn}
use Rattle.cg_syntax.specs.Naming.{Bindings, IsClosedQuestion, expanded, first_unknown, uses_of}
use Rattle.cg_query.specs.Heights.{trees_of_question}
use Rattle.cg_syntax.specs.Naming.{question_expanded, question_asked, are_too_large}
use Rattle.cg_syntax.specs.SessionLines.{lines_of, answered_from}
use Rattle.cg_query.specs.declared.format.Format.{Format}
use Rattle.cg_query.specs.declared.format.Format.TheVariants as formats

-- ---- the format

-- a line without the blanks at both ends
abbrev pub trimmed : List ℕ → List ℕ
trimmed line = reverse (skipped blank (reverse (skipped blank line)))

-- the line that says that a session has format 2
abbrev pub is_mark : List ℕ → Bool
is_mark line = bytes_eq (trimmed line) (codes "cg 2")

-- A session has format 2 where its first line, without the blanks at both ends, is "cg 2"; else it has format 1.
abbrev pub format_from : List (List ℕ) → Format
format_from [] = formats.One
format_from (line ∷ lines) = cond (is_mark line) formats.Two formats.One

abbrev pub format_of : List ℕ → Format
format_of text = format_from (lines_of text)

abbrev pub format_number : Format → ℕ
format_number formats.One = 1
format_number formats.Two = 2

-- the lines that get an answer, each with its number; in format 2 the first line gets none
abbrev pub answered_in : Format → List (List ℕ) → List (ℕ × List ℕ)
answered_in formats.One lines = answered_from 1 lines
answered_in formats.Two [] = []
answered_in formats.Two (line ∷ lines) = answered_from 2 lines

-- the lines of a text that get an answer, each with its number; all lines are counted, from 1
abbrev pub answered_lines : List ℕ → List (ℕ × List ℕ)
answered_lines text = answered_in (format_of text) (lines_of text)

-- ---- one line

-- the closed question that a line asks, or why it is refused: at this column it leaves the grammar, the use of a name at
-- this column is unknown, or its expressions have too many parts
pub data Resolved : Type 0 where
  Asked_of : Question → Resolved
  Syntax_at : ℕ → Resolved
  Unknown_at : ℕ → Resolved
  Too_large : Resolved

abbrev pub has_some : {A : Type 0} → List A → Bool
has_some [] = false
has_some (x ∷ xs) = true

-- a question that has a use is refused where its expanded expressions are too large
abbrev pub by_size : Bindings → Question → Resolved
by_size bindings q =
    cond (has_some (uses_of (trees_of_question q)) && are_too_large (trees_of_question (question_expanded bindings q)))
    Too_large (Asked_of (question_expanded bindings q))

abbrev pub by_names : Bindings → Question → Option ℕ → Resolved
by_names bindings q (Some column) = Unknown_at column
by_names bindings q None = by_size bindings q

-- what is made of a question: an unknown use comes before the size
abbrev pub resolved : Bindings → Question → Resolved
resolved bindings q = by_names bindings q (first_unknown bindings (uses_of (trees_of_question q)))

-- a definition that isn't refused binds its name to its expanded expression
abbrev pub bound_by : Bindings → List ℕ → Tree → Resolved → Bindings
bound_by bindings word t (Asked_of q) = (word, expanded bindings t) ∷ bindings
bound_by bindings word t _ = bindings

abbrev pub after : Bindings → Statement → Bindings
after bindings (asks q) = bindings
after bindings (defines word t) = bound_by bindings word t (resolved bindings (question_asked (defines word t)))

-- a line of a format, behind these bindings: what is made of it, and the bindings behind it
pub data IsLine (format : Format) (before : Bindings) (text : List ℕ) : Resolved → Bindings → Type 0 where
  stated : (s : Statement) → ReadsIn format text s → IsLine format before text (resolved before (question_asked s)) (after before s)
  refused : (column : ℕ) → IsColumnIn format text column → IsLine format before text (Syntax_at column) before

-- ---- all lines

-- these lines one after the other, each with its number
pub data AreLines (format : Format) : Bindings → List (ℕ × List ℕ) → List (ℕ × Resolved) → Type 0 where
  none : (bindings : Bindings) → AreLines format bindings [] []
  next : (before between : Bindings) (number : ℕ) (text : List ℕ) (r : Resolved) (lines : List (ℕ × List ℕ)) (rs : List (ℕ × Resolved))
      → IsLine format before text r between → AreLines format between lines rs
      → AreLines format before ((number, text) ∷ lines) ((number, r) ∷ rs)

-- What a session says: of each line that gets an answer its number and what is made of it. No name is bound before its
-- first line.
abbrev pub IsSession : List ℕ → List (ℕ × Resolved) → Type 0
IsSession text rs = AreLines (format_of text) [] (answered_lines text) rs

-- ---- closed questions

abbrev pub IsClosedLine : Resolved → Type 0
IsClosedLine (Asked_of q) = IsClosedQuestion q
IsClosedLine _ = Unit {0}

-- no question of these lines has a name
abbrev pub AreClosedLines : List (ℕ × Resolved) → Type 0
AreClosedLines [] = Unit {0}
AreClosedLines (r ∷ rs) = IsClosedLine r.1 × AreClosedLines rs

-- What a line is, what it states in a format, and the column of one that isn't in the grammar. Columns count bytes from 1.
use Rattle.std.specs.Prelude.{ℕ, ◌≡◌, ◌⊎◌, Bool, true, false, List, ◌∷◌, ◌++◌, Some, None}
use Rattle.std.specs.List.{list_all}
use Rattle.cg_reading.specs.Bytes.{has}
use Rattle.cg_reading.specs.Pieces.{Piece, Made}
use Rattle.cg_reading.specs.Tokens.{blank}
use Rattle.cg_reading.specs.Column.{Stops}
use Rattle.cg_query.specs.Tree.{Question, Statement, asks}
use Rattle.cg_grammar.specs.Found.{Stated}
use Rattle.cg_grammar.specs.Values.{asking}
use Rattle.cg_grammar.specs.Grammar.{line, line_two}
use Rattle.cg_query.specs.Trees.{question_of}
use Rattle.cg_query.specs.declared.format.Format.{Format}
use Rattle.cg_query.specs.declared.format.Format.TheVariants as formats
use Rattle.cg_query.specs.declared.query.Line.{Line}
use Rattle.cg_query.specs.declared.query.Line.TheVariants as lines
use Rattle.cg_query.specs.declared.query.SyntaxFault.{SyntaxFault}
use Rattle.cg_query.specs.declared.query.SyntaxFault.TheVariants as faults

-- blanks alone
abbrev pub is_blank_line : List ℕ → Bool
is_blank_line text = list_all (has blank) text

-- the first byte that isn't a blank is #
pub record IsComment (text : List ℕ) : Type 0 where
  pub front : List ℕ
  pub behind : List ℕ
  pub blanks : list_all (has blank) front ≡ true
  pub spelled : text ≡ front ++ 35 ∷ behind

-- In format 1 a line states a question, in format 2 a question or a definition.
abbrev pub line_of : Format → Piece Stated
line_of formats.One = Made asking line
line_of formats.Two = line_two

-- the line is in the grammar of the format, the rule on runs of one length left aside
abbrev pub IsInGrammar : Format → List ℕ → Type 0
IsInGrammar format text = (a : Stated) × line_of format 1 a text

-- the line states this
abbrev pub ReadsIn : Format → List ℕ → Statement → Type 0
ReadsIn format text s = line_of format 1 (record { statement = s; fault = None }) text

-- The column of a line that states nothing: where it leaves the grammar, or else where the first run of bars starts that
-- has the length of an earlier run of its brace with no longer run between them.
abbrev pub IsColumnIn : Format → List ℕ → ℕ → Type 0
IsColumnIn format text column =
    Stops (IsInGrammar format) text column ⊎ ((s : Statement) × line_of format 1 (record { statement = s; fault = Some column }) text)

-- why a line was refused: it states nothing, and this is its column
abbrev pub StatesNothing : Format → List ℕ → SyntaxFault → Type 0
StatesNothing format text faults.Memory = Unit {0}
StatesNothing format text (faults.Syntax column) = ((s : Statement) → ¬ ReadsIn format text s) × IsColumnIn format text column

-- ---- lines of format 1

-- the line reads as this question
abbrev pub Reads : List ℕ → Question → Type 0
Reads text q = ReadsIn formats.One text (asks q)

-- the column of a line that reads as no question
abbrev pub IsColumn : List ℕ → ℕ → Type 0
IsColumn text column = IsColumnIn formats.One text column

-- what a line is
abbrev pub IsReadAs : List ℕ → Line → Type 0
IsReadAs text lines.Blank = is_blank_line text ≡ true
IsReadAs text lines.Comment = IsComment text
IsReadAs text (lines.Ask q) = Reads text (question_of q)

-- a line that is neither blank nor a comment, and reads as no question
pub record IsUnread (text : List ℕ) (column : ℕ) : Type 0 where
  pub not_blank : is_blank_line text ≡ false
  pub not_comment : ¬ IsComment text
  pub no_question : (q : Question) → ¬ Reads text q
  pub at : IsColumn text column

-- why a line was refused
abbrev pub IsRefused : List ℕ → SyntaxFault → Type 0
IsRefused text faults.Memory = Unit {0}
IsRefused text (faults.Syntax column) = IsUnread text column

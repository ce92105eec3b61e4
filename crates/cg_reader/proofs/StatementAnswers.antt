-- What reading a line tells of it: what it states, or a column.
use Rattle.std.proofs.Common.{◌≡◌, ◌≢◌, ℕ, Bool, true, false, List, [], ◌∷◌, Option, Some, None, Result, Ok, Err, IfOk, IfErr, sym, subst}
use Rattle.std.specs.Prelude.{◌↔◌}
use Rattle.cg_reading.specs.Tokens.{blank}
use Rattle.cg_reading.specs.Readers.{skipped}
use Rattle.cg_query.specs.Tree.{Statement, asks}
use Rattle.cg_grammar.specs.Reading.{read_at}
use Rattle.cg_grammar.specs.Lines.{is_blank_line, IsComment, IsRefused, ReadsIn, IsColumnIn, StatesNothing}
use Rattle.cg_query.specs.Trees.{statement_of}
use Rattle.cg_query.specs.declared.format.Format.{Format}
use Rattle.cg_query.specs.declared.format.Format.TheVariants as formats
use Rattle.cg_query.specs.declared.query.Statement as code_statement
use Rattle.cg_query.specs.declared.query.Line.{Line}
use Rattle.cg_query.specs.declared.query.Line.TheVariants as lines
use Rattle.cg_query.specs.declared.query.SyntaxFault.{SyntaxFault}
use Rattle.cg_query.specs.declared.query.SyntaxFault.TheVariants as faults
use Rattle.cg_grammar.proofs.Whole.{stated_as, not_blank, not_comment, blank_no_comment, read_is, faulty_is}
use Rattle.cg_reader.specs.Answered.{IsFaultless}

module _ (format : Format) (text : List ℕ) where
  pub stated_read : (s : Statement) (o : Option ℕ) (r : Result code_statement.Statement SyntaxFault) → read_at format text ≡ Ok (stated_as s o) → IsFaultless s
      o r → IfOk r (λ t. ReadsIn format text (statement_of t))
  stated_read s None (Ok t) h a = subst (λ (p : Statement). ReadsIn format text p) (sym a) (read_is format text s h)
  stated_read s None (Err e) h a = absurd a
  stated_read s (Some c) (Ok t) h a = absurd a
  stated_read s (Some c) (Err e) h a = tt

  pub stated_refused : (s : Statement) (o : Option ℕ) (r : Result code_statement.Statement SyntaxFault) → read_at format text ≡ Ok (stated_as s o) →
      IsFaultless s o r → IfErr r (StatesNothing format text)
  stated_refused s None (Ok t) h a = tt
  stated_refused s None (Err e) h a = absurd a
  stated_refused s (Some c) (Ok t) h a = tt
  stated_refused s (Some c) (Err faults.Memory) h a = absurd a
  stated_refused s (Some c) (Err (faults.Syntax d)) h a = let f = faulty_is format text s c h in (f.0, subst (λ (n : ℕ). IsColumnIn format text n) (sym a) f.1)

-- ---- lines of format 1 that are blank, a comment, or neither

-- a result that says neither that the line is blank nor that it is a comment
abbrev pub IsNeither : Result Line SyntaxFault → Type 0
IsNeither (Ok lines.Blank) = ⊥
IsNeither (Ok lines.Comment) = ⊥
IsNeither (Ok (lines.Ask q)) = Unit {0}
IsNeither (Err e) = Unit {0}

abbrev outcome : Line → Result Line SyntaxFault
outcome l = Ok l

false_not_true : (b : Bool) → b ≡ false → b ≡ true → ⊥
false_not_true b h k = absurd cc

blank_is_no_comment : outcome lines.Blank ≡ outcome lines.Comment → ⊥
blank_is_no_comment e = cc

module _ (text : List ℕ) where
  pub neither_blank : (b : ℕ) (rest : List ℕ) (r : Result Line SyntaxFault) → skipped blank text ≡ b ∷ rest → IsNeither r → (r ≡ Ok lines.Blank) ↔
      (is_blank_line text ≡ true)
  neither_blank b rest r e n = (λ h. absurd (subst IsNeither h n), λ h. absurd (false_not_true (is_blank_line text) (not_blank text b rest e) h))

  pub neither_comment : (b : ℕ) (rest : List ℕ) (r : Result Line SyntaxFault) → skipped blank text ≡ b ∷ rest → b ≢ 35 → IsNeither r → (r ≡ Ok lines.Comment) ↔
      IsComment text
  neither_comment b rest r e other n = (λ h. absurd (subst IsNeither h n), λ is. absurd (not_comment text b rest e other is))

  pub blank_comment : skipped blank text ≡ [] → (outcome lines.Blank ≡ Ok lines.Comment) ↔ IsComment text
  blank_comment e = (λ h. absurd (blank_is_no_comment h), λ is. absurd (blank_no_comment text e is))

  pub comment_blank : (b : ℕ) (rest : List ℕ) → skipped blank text ≡ b ∷ rest → (outcome lines.Comment ≡ Ok lines.Blank) ↔ (is_blank_line text ≡ true)
  comment_blank b rest e = (λ h. absurd (blank_is_no_comment (sym h)), λ h. absurd (false_not_true (is_blank_line text) (not_blank text b rest e) h))

  pub line_refused : (b : ℕ) (rest : List ℕ) (f : SyntaxFault) → skipped blank text ≡ b ∷ rest → b ≢ 35 → StatesNothing formats.One text f → IsRefused text f
  line_refused b rest faults.Memory e other n = tt
  line_refused b rest (faults.Syntax column) e other n = record {
    not_blank = not_blank text b rest e;
    not_comment = not_comment text b rest e other;
    no_question = λ q. n.0 (asks q);
    at = n.1;
  }

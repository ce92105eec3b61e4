-- What is put on a sheet of the code, line after line.
use Rattle.std.specs.Prelude.{ℕ, ◌≡◌, List, [], ◌∷◌, ◌++◌}
use Rattle.cg_query.specs.Tree.{Statement}
use Rattle.cg_query.specs.declared.format.Format.{Format}
use Rattle.cg_syntax.specs.Bound.{bindings_in}
use Rattle.cg_syntax.specs.Naming.{question_asked}
use Rattle.cg_syntax.specs.Session.{Resolved, IsLine, resolved, after}
use Rattle.cg_syntax.specs.SessionViews.{resolved_of}
use Rattle.cg_syntax.specs.declared.session.SessionLine.{SessionLine}
use Rattle.cg_syntax.specs.declared.sheet.Sheet.{Sheet}

-- a line with this number was put at the end of a sheet, with this made of it
pub record IsPut (number : ℕ) (r : Resolved) (old new : Sheet) : Type 0 where
  pub line : SessionLine
  pub lines : new.lines.items ≡ old.lines.items ++ line ∷ []
  pub number_is : line.number ≡ number
  pub is : resolved_of line.asked ≡ r

-- what a line of a format asks was put at the end, and its name is bound
pub record Puts (format : Format) (number : ℕ) (text : List ℕ) (old new : Sheet) : Type 0 where
  pub made : Resolved
  pub is_line : IsLine format (bindings_in old) text made (bindings_in new)
  pub put : IsPut number made old new

-- what a statement asks was put at the end, and its name is bound
pub record PutsStatement (number : ℕ) (s : Statement) (old new : Sheet) : Type 0 where
  pub put : IsPut number (resolved (bindings_in old) (question_asked s)) old new
  pub bindings : bindings_in new ≡ after (bindings_in old) s

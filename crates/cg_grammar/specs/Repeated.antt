-- At which columns of a line some brace of it, at any depth, repeats a run of bars.
use Rattle.std.specs.Prelude.{ℕ, zero, suc, ◌⊎◌, List, [], ◌∷◌, ◌++◌, map}
use Rattle.cg_reading.specs.Pieces.{Piece, Or, Made}
use Rattle.cg_reading.specs.Tokens.{behind_blanks, with_blanks}
use Rattle.cg_query.specs.declared.format.Format.{Format}
use Rattle.cg_query.specs.declared.format.Format.TheVariants as formats
use Rattle.cg_grammar.specs.Found.{Found, Stated}
use Rattle.cg_grammar.specs.Braces.{Run_side}
use Rattle.cg_grammar.specs.Values.{Last, asking, run_side}
use Rattle.cg_grammar.specs.Grammar.{board, braces, define_by, enclosed, expr, octal_piece, query, side, switch_piece, tiny_piece, whole_piece, with_names}
use Rattle.cg_grammar.specs.Lines.{IsInGrammar}
use Rattle.cg_grammar.specs.Splitting.{IsRepeatAt}

-- one of these runs starts at the column and repeats an earlier one of its brace
abbrev pub RunRepeats : List ℕ → List Run_side → ℕ → Type 0
RunRepeats earlier [] column = ⊥
RunRepeats earlier (r ∷ rows) column = IsRepeatAt earlier r column ⊎ RunRepeats (earlier ++ r.bars ∷ []) rows column

-- ---- the grammar without the braces that repeat a run at this column

-- a brace, none of whose own runs starts at this column and repeats an earlier one
abbrev pub braces_but : ℕ → Piece (List Found) → Piece Found
braces_but column side i e text = (is : braces side i e text) × (¬ RunRepeats [] (map run_side is.made_of.1.1.0) column)

-- what may be an operand, where those braces are left out at any depth
unfoldable pub special_but : ℕ → Format → ℕ → Piece (Found × Last)
special_but column format zero = with_names format (whole_piece (Or switch_piece (Or tiny_piece (Or board octal_piece))))
special_but column format (suc k) =
    with_names format (whole_piece
    (Or switch_piece (Or tiny_piece (Or (braces_but column (side (expr (special_but column format k))))
    (Or (enclosed (expr (special_but column format k))) (Or board octal_piece))))))

-- a line of a format, over what an expression is
abbrev pub line_by : Format → Piece Found → Piece Stated
line_by formats.One expr = Made asking (behind_blanks (with_blanks (query expr)))
line_by formats.Two expr = behind_blanks (with_blanks (Or (Made asking (query expr)) (define_by expr)))

-- Some brace of the line, at any depth, repeats a run at this column: the line is in the grammar, and wouldn't be if the braces
-- that repeat a run there were left out of it.
pub record RepeatsAt (format : Format) (line : List ℕ) (column : ℕ) : Type 0 where
  pub read : IsInGrammar format line
  pub left_out : (a : Stated) → ¬ line_by format (expr (special_but column format 64)) 1 a line

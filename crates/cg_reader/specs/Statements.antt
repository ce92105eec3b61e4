-- The statements that the code hands on while it reads.
use Rattle.cg_query.specs.Tree.{Tree, Question, value, compare, outcome, stops, mean, temp, thermo, proof}
use Rattle.cg_grammar.specs.Found.{Stated}
use Rattle.cg_grammar.specs.Reading.{Kind, Of_one, Of_two, Of_check, Of_name}
use Rattle.cg_query.specs.Trees.{statement_of}
use Rattle.cg_reader.specs.declared.found.Stated as code
use Rattle.cg_reader.specs.declared.questions.Asking.{Asking}
use Rattle.cg_reader.specs.declared.questions.Asking.TheVariants as askings
use Rattle.cg_reader.specs.declared.questions.AskingBoth.{AskingBoth}
use Rattle.cg_reader.specs.declared.questions.AskingBoth.TheVariants as askings_both
use Rattle.cg_reader.specs.declared.questions.Kind as code_kind
use Rattle.cg_reader.specs.declared.questions.Kind.TheVariants as kinds

-- what is asked of one tree, or of two
abbrev pub asking_of : Asking → (Tree → Question)
asking_of askings.Value = value
asking_of askings.Outcome = outcome
asking_of askings.Stops = stops
asking_of askings.Mean = mean
asking_of askings.Temp = temp
asking_of askings.Thermo = thermo

abbrev pub asking_both_of : AskingBoth → (Tree → Tree → Question)
asking_both_of askings_both.Compare = compare
asking_both_of askings_both.Proof = proof

-- what the first word of a line tells
abbrev pub kind_view : code_kind.Kind → Kind
kind_view (kinds.One asking) = Of_one (asking_of asking)
kind_view (kinds.Two asking) = Of_two (asking_both_of asking)
kind_view kinds.Check = Of_check
kind_view kinds.Name = Of_name

-- what was found to be stated, with the first fault in it
abbrev pub stated_view : code.Stated → Stated
stated_view s = record { statement = statement_of s.statement; fault = s.fault }

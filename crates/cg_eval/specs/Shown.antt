-- An answer, without where it lies in memory.
use Rattle.std.specs.Prelude.{◌≡◌, ℕ, ◌<◌, Bool, true, false, List, Option, Some, None, Result}
use Rattle.cg_cells.specs.Store.{State}
use Rattle.cg_dyadic.specs.Wide.{places}
use Rattle.cg_form.specs.Depth.{depth_of}
use Rattle.cg_nodes.specs.Can.{can}
use Rattle.cg_nodes.specs.Meant.{Meant}
use Rattle.cg_nodes.specs.Games.{StandsFor}
use Rattle.cg_canon.specs.Items.{AllPass}
use Rattle.cg_canon.specs.declared.rest.WorkRest.{WorkRest}
use Rattle.cg_thermo.specs.Thermal.{NeedsMore}
use Rattle.cg_eval.specs.Meaning.{meaning}
use Rattle.cg_query.specs.Tree.{Tree, Question, value, compare, outcome, stops, mean, temp, thermo, proof, check}
use Rattle.cg_grammar.specs.Lines.{Reads}
use Rattle.cg_eval.specs.declared.answered.Answered.{Answered}
use Rattle.cg_eval.specs.declared.fault.NoValue.{NoValue}
use Rattle.cg_eval.specs.Faults.{question_fault}
use Rattle.cg_eval.specs.Items.{question_items}
use Rattle.cg_eval.specs.Progress.{Ends}
use Rattle.cg_eval.specs.Reply.{IsAnswerTo, IsReplyTo, Piece}

abbrev pub shown : Answered → Piece
shown a = record { text = a.text; refused = a.refused }

-- the expression of the question, the first one of two
abbrev pub first_of : Question → Tree
first_of (value t) = t
first_of (compare s t) = s
first_of (outcome t) = t
first_of (stops t) = t
first_of (mean t) = t
first_of (temp t) = t
first_of (thermo t) = t
first_of (proof s t) = s
first_of (check s t text) = s

-- a refused line has no handle, and any other has that of the value of its first expression
abbrev pub HandleIs : {R : Type 0} → State Meant R → Question → Bool → Option ℕ → Type 0
HandleIs {R} s q true handle = handle ≡ None
HandleIs {R} s q false None = ⊥
HandleIs {R} s q false (Some h) = StandsFor s h (can (meaning (first_of q)))

-- where the line reads as no question it has no handle
pub record HandleOf {R : Type 0} (s : State Meant R) (line : List ℕ) (refused : Bool) (handle : Option ℕ) : Type 0 where
  pub read : (q : Question) → Reads line q → HandleIs s q refused handle
  pub refusal : refused ≡ true → handle ≡ None

-- where the question is for a mean, a temperature or a thermograph, and one of these needs too many binary places, the value of its
-- expression has a depth of more than 20
abbrev pub IsDeep : Question → Type 0
IsDeep (mean t) = NeedsMore places (can (meaning t)) → 20 < depth_of (can (meaning t))
IsDeep (temp t) = NeedsMore places (can (meaning t)) → 20 < depth_of (can (meaning t))
IsDeep (thermo t) = NeedsMore places (can (meaning t)) → 20 < depth_of (can (meaning t))
IsDeep _ = Unit {0}

-- where the line reads as a question and all of its items pass, the refusal of a mean or a temperature that needs too many places
-- comes at a depth of more than 20 alone
abbrev pub IsDeepAt : ℕ → ℕ → List ℕ → Type 0
IsDeepAt share limit line =
    (q : Question) → Reads line q → question_fault q ≡ None → (total : ℕ) → AllPass share 0 (question_items limit q) total → IsDeep q

-- the answer to the question, with the value of its first expression exactly where it is no refusal
pub record IsAnswer {R : Type 0} (s : State Meant R) (q : Question) (a : Answered) : Type 0 where
  pub text : IsAnswerTo q (shown a)
  pub value : HandleIs s q a.refused a.handle
  pub deep : IsDeep q

-- the answer to the question, with all of its items made; or why there is none
abbrev pub Answers : {R : Type 0} → State Meant (WorkRest R) → State Meant (WorkRest R) → Question
    → Result Answered NoValue → Type 0
Answers {R} s t q result = Ends s t (question_fault q) (question_items s.rest.limit q) (IsAnswer t q) result

-- the reply to the question, with the value of its first expression exactly where it isn't refused
pub record IsAnswered {R : Type 0} (share limit : ℕ) (s : State Meant R) (q : Question) (a : Answered) : Type 0 where
  pub reply : IsReplyTo share limit q (shown a)
  pub handle : HandleIs s q a.refused a.handle
  -- where all items pass, the refusal of a mean or a temperature that needs too many places comes at a depth of more than 20 alone
  pub deep : question_fault q ≡ None → (total : ℕ) → AllPass share 0 (question_items limit q) total → IsDeep q

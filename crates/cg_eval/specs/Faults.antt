-- Why the first ill-formed board or heap of an expression, from the left, is ill-formed.
use Rattle.std.specs.Prelude.{Option, Some, None}
use Rattle.cg_query.specs.Tree.{Tree, Trees, Terms, Question, sides, negative, multiple, sum, game, octal, no_trees, with_tree, no_terms, with_term}
use Rattle.cg_query.specs.Tree.{value, compare, outcome, stops, mean, temp, thermo, proof, check}
use Rattle.cg_eval.specs.Boards.{position_fault, position_of}
use Rattle.cg_eval.specs.Octals.{heap_fault, octal_read}
use Rattle.cg_eval.specs.declared.fault.GameFault.{GameFault}

abbrev pub first_of_two : Option GameFault → Option GameFault → Option GameFault
first_of_two None second = second
first_of_two (Some fault) second = Some fault

abbrev mutual
  pub fault_in : Tree → Option GameFault
  fault_in (sides lefts rights) = first_of_two (fault_in_all lefts) (fault_in_all rights)
  fault_in (negative t) = fault_in t
  fault_in (multiple n t) = fault_in t
  fault_in (sum terms) = fault_in_terms terms
  fault_in (game kind rules text) = position_fault (position_of kind rules text)
  fault_in (octal code heap) = heap_fault (octal_read code heap)
  fault_in _ = None

  pub fault_in_all : Trees → Option GameFault
  fault_in_all no_trees = None
  fault_in_all (with_tree t ts) = first_of_two (fault_in t) (fault_in_all ts)

  pub fault_in_terms : Terms → Option GameFault
  fault_in_terms no_terms = None
  fault_in_terms (with_term subtracted t ts) = first_of_two (fault_in t) (fault_in_terms ts)

-- in a question's expressions
abbrev pub question_fault : Question → Option GameFault
question_fault (value t) = fault_in t
question_fault (compare s t) = first_of_two (fault_in s) (fault_in t)
question_fault (outcome t) = fault_in t
question_fault (stops t) = fault_in t
question_fault (mean t) = fault_in t
question_fault (temp t) = fault_in t
question_fault (thermo t) = fault_in t
question_fault (proof s t) = first_of_two (fault_in s) (fault_in t)
question_fault (check s t text) = first_of_two (fault_in s) (fault_in t)

-- Boards and heaps among other expressions.
use Rattle.std.proofs.Common.{ℕ, List, Result}
use Rattle.cg_cells.specs.Store.{State}
use Rattle.cg_nodes.specs.Meant.{Meant}
use Rattle.cg_canon.specs.declared.rest.WorkRest.{WorkRest}
use Rattle.cg_query.specs.Tree.{game, octal}
use Rattle.cg_query.specs.declared.kind.GameKind.{GameKind}
use Rattle.cg_eval.specs.Boards.{position_fault, position_form, position_items, position_of}
use Rattle.cg_eval.specs.Items.{items}
use Rattle.cg_names.specs.Meaning.{meaning as meaning_by}
use Rattle.cg_eval.specs.Octals.{heap_fault, heap_form, heap_items, octal_read}
use Rattle.cg_eval.specs.Progress.{Evaluates, Finds}
use Rattle.cg_eval.specs.declared.fault.NoValue.{NoValue}

pub board_finds : {R : Type 0} (s t : State Meant (WorkRest R)) (kind : GameKind) (rules text : List ℕ)
    (result : Result ℕ NoValue)
    → Finds s t (position_fault (position_of kind rules text)) (position_items s.rest.limit (position_of kind rules text))
    (position_form (position_of kind rules text))
    result
    → Evaluates s t (game kind rules text) result
unfolding items meaning_by
board_finds s t kind rules text result h = h

pub heap_finds : {R : Type 0} (s t : State Meant (WorkRest R)) (code : List ℕ) (tokens : ℕ) (result : Result ℕ NoValue)
    → Finds s t (heap_fault (octal_read code tokens)) (heap_items s.rest.limit (octal_read code tokens)) (heap_form (octal_read code tokens)) result
    → Evaluates s t (octal code tokens) result
unfolding items meaning_by
heap_finds s t code tokens result h = h

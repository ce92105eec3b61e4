-- What an expression means, as a game: as in cg_names, where boards and heaps mean the trees of all their moves.
use Rattle.cg_form.specs.Game.{Game, Games}
use Rattle.cg_names.specs.Meaning as names
use Rattle.cg_names.specs.Meaning.{PositionForms}
use Rattle.cg_query.specs.Tree.{Tree, Trees, Terms}
use Rattle.cg_eval.specs.Boards.{position_form, position_of}
use Rattle.cg_eval.specs.Octals.{heap_form, octal_read}

abbrev pub forms : PositionForms
forms = record {
  of_board = λ kind rules board. position_form (position_of kind rules board);
  of_heap = λ code heap. heap_form (octal_read code heap);
}

abbrev pub meaning : Tree → Game
meaning = names.meaning forms

abbrev pub meanings : Trees → Games
meanings = names.meanings forms

-- the sum of the terms, from the first one on
abbrev pub total : Terms → Game
total = names.total forms

-- the sum of the game and the terms
abbrev pub total_with : Game → Terms → Game
total_with = names.total_with forms

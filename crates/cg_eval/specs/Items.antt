-- The forms that an expression makes, in order. `limit` is the most that one list of items may have.
use Rattle.std.specs.Prelude.{ℕ, Bool, false, cond, List, [], ◌∷◌, ◌++◌}
use Rattle.cg_form.specs.Game.{Game}
use Rattle.cg_form.specs.Sum.{sum as plus}
use Rattle.cg_nodes.specs.Can.{can}
use Rattle.cg_canon.specs.Items.{Item, made}
use Rattle.cg_canon.specs.NumberItems.{number_made}
use Rattle.cg_canon.specs.SumItems.{sum_items}
use Rattle.cg_sum.specs.Lists.{negative_items, multiple_items}
use Rattle.cg_names.specs.Named.{nimber_form, ups_form, switch_form, tiny_form}
use Rattle.cg_names.specs.Lists.{form_items, number_items}
use Rattle.cg_names.specs.Meaning.{literal, signed}
use Rattle.cg_eval.specs.Meaning.{meaning}
use Rattle.cg_eval.specs.Boards.{position_items, position_of}
use Rattle.cg_eval.specs.Octals.{heap_items, octal_read}
use Rattle.cg_eval.specs.Zero.{zero_items}
use Rattle.cg_query.specs.Tree.{Tree, Trees, Terms, Question, number, ups, nimber, switch, tiny, sides, negative, multiple, sum, game, octal, used}
use Rattle.cg_query.specs.Tree.{no_trees, with_tree, no_terms, with_term, value, compare, outcome, stops, mean, temp, thermo, proof, check}

-- the items that subtracting a game adds before the sum
abbrev pub signed_items : ℕ → Bool → Game → List Item
signed_items limit subtracted g = cond subtracted (negative_items limit g) []

unfoldable mutual
  pub items : ℕ → Tree → List Item
  items limit (number below num den) = number_made (literal below num den) 0 ∷ []
  items limit (ups down n) = form_items limit (ups_form down n)
  items limit (nimber n) = form_items limit (nimber_form n)
  items limit (switch num den) = number_items limit switch_form (literal false num den)
  items limit (tiny miny num den) = number_items limit (tiny_form miny) (literal false num den)
  items limit (sides lefts rights) =
      all_items limit lefts ++ all_items limit rights ++ (made (can (meaning (sides lefts rights))) 0 ∷ [])
  items limit (negative t) = items limit t ++ negative_items limit (can (meaning t))
  items limit (multiple n t) = items limit t ++ multiple_items limit n (can (meaning t))
  items limit (sum terms) = term_items limit terms
  items limit (game kind rules board) = position_items limit (position_of kind rules board)
  items limit (octal code heap) = heap_items limit (octal_read code heap)
  items limit (used word column) = zero_items

  -- those of the expressions in order
  pub all_items : ℕ → Trees → List Item
  all_items limit no_trees = []
  all_items limit (with_tree t ts) = items limit t ++ all_items limit ts

  -- those of a sum: of the first term, and then of each further one. A sum of no terms, as which no line reads, is 0
  pub term_items : ℕ → Terms → List Item
  term_items limit no_terms = zero_items
  term_items limit (with_term subtracted t ts) =
      items limit t ++ signed_items limit subtracted (can (meaning t))
      ++ further_items limit (signed subtracted (meaning t)) ts

  -- those of adding the terms to a game: of each term, of its negative where it is subtracted, and of the sum
  pub further_items : ℕ → Game → Terms → List Item
  further_items limit g no_terms = []
  further_items limit g (with_term subtracted t ts) =
      items limit t ++ signed_items limit subtracted (can (meaning t))
      ++ sum_items limit (can g) (can (signed subtracted (meaning t)))
      ++ further_items limit (plus g (signed subtracted (meaning t))) ts

-- those of a term: of its expression, and of the negative where it is subtracted
abbrev pub term_part : ℕ → Bool → Tree → List Item
term_part limit subtracted t = items limit t ++ signed_items limit subtracted (can (meaning t))

-- those of a question: the second expression's follow the first's
abbrev pub question_items : ℕ → Question → List Item
question_items limit (value t) = items limit t
question_items limit (compare s t) = items limit s ++ items limit t
question_items limit (outcome t) = items limit t
question_items limit (stops t) = items limit t
question_items limit (mean t) = items limit t
question_items limit (temp t) = items limit t
question_items limit (thermo t) = items limit t
question_items limit (proof s t) = items limit s ++ items limit t
question_items limit (check s t text) = items limit s ++ items limit t

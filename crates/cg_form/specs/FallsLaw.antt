-- The lists of a form are smaller than the form, which the model of `Options` states.
use Rattle.std.specs.Prelude.{◌≤◌, max, List, [], ◌∷◌}
use Rattle.std.proofs.Common.{arith}
use denote.Param.Weighed.{most}
use Rattle.cg_form.specs.declared.form.Form.{Form}
use Rattle.cg_form.specs.declared.form.Form.TheVariants.{Num, Node}
use Rattle.cg_form.specs.declared.form.Options.TheDeep.{deep-Form}
use Rattle.cg_form.specs.Forms.{game_of, games_of}
use Rattle.cg_form.specs.Size.{list_size, size}

pub deep_le-size : (f : Form) → deep-Form f ≤ size (game_of f)
deep_le-size (Num x) = omega arith
deep_le-size (Node ls rs) = omega arith

pub most_le-list_size : (fs : List Form) → max (most deep-Form fs) 0 ≤ list_size (games_of fs)
most_le-list_size [] = omega arith
most_le-list_size (f ∷ fs) = omega (arith, deep_le-size f, most_le-list_size fs)

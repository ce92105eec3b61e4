-- What a form stands for.
use Rattle.std.specs.Prelude.{List, map}
use Rattle.cg_form.specs.declared.form.Form.{Form}
use Rattle.cg_form.specs.declared.form.Form.TheVariants.{Num, Node}
use Rattle.cg_form.specs.Game.{Game, node, number}

-- the lists of a Node are seen as lists of games
abbrev pub game_of : Form → Game
game_of (Num x) = number x
game_of (Node ls rs) = node ls rs

abbrev pub games_of : List Form → List Game
games_of fs = map game_of fs

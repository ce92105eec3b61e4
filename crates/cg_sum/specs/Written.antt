-- The options that are written in a form: a number has none.
use Rattle.std.specs.Prelude.{List, []}
use Rattle.cg_form.specs.Game.{Game, number, options, to_list}

abbrev pub written_lefts : Game → List Game
written_lefts (number x) = []
written_lefts (options ls rs) = to_list ls

abbrev pub written_rights : Game → List Game
written_rights (number x) = []
written_rights (options ls rs) = to_list rs

-- The name of a game as a function, by the named form that its shape tells.
use Rattle.std.specs.Prelude.{ℕ, List, [], ◌++◌, Option, Some, None, codes}
use Rattle.cg_dyadic.specs.Exact.{number_text}
use Rattle.cg_form.specs.Game.{Game, Games, number, options, none, more}
use Rattle.cg_names.specs.Name.{braces_name}
use Rattle.cg_names.specs.Shapes.{named_form_of}
use Rattle.cg_names.specs.NamedForms.{named_text}
use Rattle.cg_names.specs.declared.named_form.NamedForm.{NamedForm}

-- the text of a named form, or where there is none the other text
abbrev pub named_or : Option NamedForm → List ℕ → List ℕ
named_or None text = text
named_or (Some s) text = named_text s

abbrev mutual
  pub name_of : Game → List ℕ
  name_of (number x) = number_text x
  name_of (options ls rs) = named_or (named_form_of (options ls rs)) (braces_name (names_of ls) (names_of rs))

  -- the names of a list, with commas between them
  pub names_of : Games → List ℕ
  names_of none = []
  names_of (more g gs) = name_of g ++ further_names gs

  -- the names of a list, each behind a comma
  pub further_names : Games → List ℕ
  further_names none = []
  further_names (more g gs) = codes "," ++ (name_of g ++ further_names gs)

-- What a game of two lists of indexes is.
use Rattle.std.specs.Prelude.{◌≡◌, List}
use Rattle.cg_dyadic.specs.Number.{InRange, Number as Value}
use Rattle.cg_form.specs.Game as tree
use Rattle.cg_form.specs.Game.{node, number}
use Rattle.cg_arena.specs.declared.canonicalizing.NewForm.{NewForm}
use Rattle.cg_arena.specs.declared.canonicalizing.Canonicalized.{Canonicalized}
use Rattle.cg_arena.specs.declared.canonicalizing.Canonicalized.TheVariants.{Game, Number, Outside}
use Rattle.cg_arena.specs.Arena.{AreIndexes, games_of}
use Rattle.cg_arena.specs.Summaries.{IsSummary}

-- the form has these options and this summary
pub record IsNewForm (gs : List tree.Game) (form : tree.Game) (new : NewForm) : Type 0 where
  pub lefts : AreIndexes gs new.form.lefts.items
  pub rights : AreIndexes gs new.form.rights.items
  pub is : form ≡ node (games_of gs new.form.lefts.items) (games_of gs new.form.rights.items)
  pub summary : IsSummary form new.summary

pub record IsOutside (form : tree.Game) : Type 0 where
  pub x : Value
  pub is : form ≡ number x
  pub outside : ¬ InRange x

-- the canonical form is this
abbrev pub IsCanonicalized : List tree.Game → tree.Game → Canonicalized → Type 0
IsCanonicalized gs form (Number x) = form ≡ number x
IsCanonicalized gs form Outside = IsOutside form
IsCanonicalized gs form (Game new) = IsNewForm gs form new

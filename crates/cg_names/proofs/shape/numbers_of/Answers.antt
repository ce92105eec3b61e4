use Rattle.cg_form.specs.Game.{number}
use Rattle.cg_names.proofs.Looks.{pair-lefts, pair-rights}
use Rattle.cg_names.proofs.shape.numbers_of.Goals as goal

pub returns-in-None : goal.returns-in-None
returns-in-None c x y e = c.in-None.ensures (number x) (pair-lefts _ _ x y e)

pub returns-in-None-only : goal.returns-in-None-only
returns-in-None-only c x y e = c.in-None-only.ensures (number y) (pair-rights _ _ x y e)

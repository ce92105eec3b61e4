use Rattle.std.proofs.Common.{◌+◌, ◌*◌, take}
use Rattle.std.specs.Prelude.{Some}
use Rattle.cg_dyadic.specs.Number.{InRange}
use Rattle.cg_form.specs.Cut.{CutOf}
use Rattle.cg_form.specs.Forms.{game_of, games_of}
use Rattle.cg_form.specs.Size.{list_size, size}
use Rattle.cg_form.proofs.slow.+cut_of.Given as goal

abbrev pub decreases-cut_of : goal.decreases-cut_of
decreases-cut_of l = 2 * size (game_of l.form.now)

abbrev pub decreases-cut_of_all : goal.decreases-cut_of_all
decreases-cut_of_all l = 2 * list_size l.options.now + 1

abbrev pub invariant-cut_of_all-loop-option : goal.invariant-cut_of_all-loop-option
invariant-cut_of_all-loop-option l = CutOf InRange l.left (Some l.all) (games_of (take l.option-index l.option-items))

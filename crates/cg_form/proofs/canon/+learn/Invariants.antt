use Rattle.std.proofs.Common.{◌+◌, ◌*◌, take}
use Rattle.cg_form.specs.Cut.{AnyNumber, CutOf}
use Rattle.cg_form.specs.Forms.{game_of, games_of}
use Rattle.cg_form.specs.Game.{of_list}
use Rattle.cg_form.specs.Known.{CopiesOf}
use Rattle.cg_form.specs.Range.{AnyOutside}
use Rattle.cg_form.specs.Size.{list_size, size}
use Rattle.cg_form.proofs.canon.+learn.Given as goal

abbrev pub decreases-learn : goal.decreases-learn
decreases-learn l = 2 * size (game_of l.form.now)

abbrev pub decreases-learn_all : goal.decreases-learn_all
decreases-learn_all l = 2 * list_size l.options.now + 1

abbrev pub invariant-learn_all-loop-option : goal.invariant-learn_all-loop-option
invariant-learn_all-loop-option l = record {
  copies : CopiesOf (games_of (take l.option-index l.option-items)) (games_of l.forms.items);
  cut : CutOf AnyNumber l.left l.cut (games_of (take l.option-index l.option-items));
  inside : ¬ AnyOutside (of_list (games_of (take l.option-index l.option-items)));
}

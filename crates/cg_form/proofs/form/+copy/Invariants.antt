use Rattle.std.proofs.Common.{◌≡◌, take, ◌*◌, ◌+◌}
use Rattle.cg_form.specs.Forms.{game_of, games_of}
use Rattle.cg_form.specs.Size.{list_size, size}
use Rattle.cg_form.proofs.form.+copy.Given as goal

abbrev pub decreases-Form::copy : goal.decreases-Form::copy
decreases-Form::copy l = 2 * size (game_of l.self.now)

abbrev pub decreases-Options::copy_all : goal.decreases-Options::copy_all
decreases-Options::copy_all l = 2 * list_size l.self.now + 1

abbrev pub invariant-Options::copy_all-loop-form : goal.invariant-Options::copy_all-loop-form
invariant-Options::copy_all-loop-form l = games_of l.items.items ≡ games_of (take l.form-index l.form-items)

use Rattle.std.proofs.Common.{◌≡◌, take, ◌*◌, ◌+◌}
use Rattle.cg_form.specs.Depth.{deepest}
use Rattle.cg_form.specs.Forms.{game_of, games_of}
use Rattle.cg_form.specs.Size.{list_size, size}
use Rattle.cg_form.proofs.form.+depth.Given as goal

abbrev pub invariant-Options::deepest-loop-form : goal.invariant-Options::deepest-loop-form
invariant-Options::deepest-loop-form l = l.most ≡ deepest (games_of (take l.form-index l.form-items))

abbrev pub decreases-Form::depth : goal.decreases-Form::depth
decreases-Form::depth l = 2 * size (game_of l.self.now)

abbrev pub decreases-Options::deepest : goal.decreases-Options::deepest
decreases-Options::deepest l = 2 * list_size l.self.now + 1

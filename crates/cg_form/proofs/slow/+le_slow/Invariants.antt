use Rattle.std.proofs.Common.{◌+◌, ◌*◌, take, ◌≡◌, true}
use Rattle.cg_form.specs.Forms.{game_of, games_of}
use Rattle.cg_form.specs.Order.{le, no_one}
use Rattle.cg_form.specs.Size.{list_size, size}
use Rattle.cg_form.proofs.slow.+le_slow.Given as goal

abbrev pub decreases-le_slow : goal.decreases-le_slow
decreases-le_slow l = 2 * (size (game_of l.a.now) + size (game_of l.b.now))

abbrev pub decreases-none_above : goal.decreases-none_above
decreases-none_above l = 2 * (size (game_of l.form.now) + list_size l.options.now) + 1

abbrev pub decreases-none_below : goal.decreases-none_below
decreases-none_below l = 2 * (size (game_of l.form.now) + list_size l.options.now) + 1

abbrev pub invariant-none_above-loop-option : goal.invariant-none_above-loop-option
invariant-none_above-loop-option l = no_one (λ a. le (game_of l.form) a) (games_of (take l.option-index l.option-items)) ≡ true

abbrev pub invariant-none_below-loop-option : goal.invariant-none_below-loop-option
invariant-none_below-loop-option l = no_one (λ b. le b (game_of l.form)) (games_of (take l.option-index l.option-items)) ≡ true

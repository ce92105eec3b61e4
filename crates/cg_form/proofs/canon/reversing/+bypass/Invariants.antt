use Rattle.std.proofs.Common.{◌≡◌, ◌+◌, ◌*◌, take, true}
use Rattle.cg_form.specs.Bypass.{Taken}
use Rattle.cg_form.specs.Forms.{game_of, games_of}
use Rattle.cg_form.specs.Order.{no_one}
use Rattle.cg_form.specs.Side.{at_most}
use Rattle.cg_form.specs.Size.{list_size, size}
use Rattle.cg_form.proofs.canon.reversing.+bypass.Given as goal

abbrev pub decreases-bypass : goal.decreases-bypass
decreases-bypass l = 2 * size (game_of l.option.now)

abbrev pub decreases-bypass_all : goal.decreases-bypass_all
decreases-bypass_all l = 2 * list_size l.options.now + 1

abbrev pub invariant-bypass-loop-answer : goal.invariant-bypass-loop-answer
invariant-bypass-loop-answer l = no_one (λ b. at_most l.left b (game_of l.whole)) (games_of (take l.answer-index l.answer-items)) ≡ true

abbrev pub invariant-bypass_all-loop-option : goal.invariant-bypass_all-loop-option
invariant-bypass_all-loop-option l =
    Taken l.left (game_of l.whole) (games_of l.fn.out.items) (games_of (take l.option-index l.option-items)) (games_of l.all.items)

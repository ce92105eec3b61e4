use Rattle.std.proofs.Common.{◌≡◌, ◌+◌, ◌*◌, take, true}
use Rattle.cg_form.specs.Depth.{deepest, depth_of}
use Rattle.cg_form.specs.Order.{no_one}
use Rattle.cg_form.specs.Side.{at_most as at_most_for}
use Rattle.cg_arena.specs.Arena.{game_of, games_of}
use Rattle.cg_arena.specs.OrderMemos.{AreRight}
use Rattle.cg_arena.proofs.order.+found.Given as goal

abbrev pub decreases-compared : goal.decreases-compared
decreases-compared l = 4 * (depth_of (game_of l.arena.now l.a) + depth_of (game_of l.arena.now l.b))

abbrev pub decreases-found : goal.decreases-found
decreases-found l = 4 * (depth_of (game_of l.arena.now l.a) + depth_of (game_of l.arena.now l.b)) + 1

abbrev pub decreases-at_most : goal.decreases-at_most
decreases-at_most l = 4 * (depth_of (game_of l.arena.now l.a) + depth_of (game_of l.arena.now l.b)) + 2

abbrev pub decreases-none_as_good : goal.decreases-none_as_good
decreases-none_as_good l = 4 * (depth_of (game_of l.arena.now l.x) + deepest (games_of l.arena.now l.list.now)) + 3

abbrev pub invariant-none_as_good-loop-option : goal.invariant-none_as_good-loop-option
invariant-none_as_good-loop-option l = record {
  right : AreRight l.arena l.answers;
  none : no_one (at_most_for l.left (game_of l.arena l.x)) (games_of l.arena (take l.option-index l.list)) ≡ true;
}

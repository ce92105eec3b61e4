use Rattle.std.proofs.Common.{◌≡◌, ◌+◌, ◌*◌, take, true}
use Rattle.cg_form.specs.Depth.{deepest, depth_of}
use Rattle.cg_form.specs.Order.{no_one}
use Rattle.cg_form.specs.Side.{at_most}
use Rattle.cg_arena.specs.Arena.{game_of, games_of}
use Rattle.cg_arena.specs.UnreducedGames.{AreKnown, unreduced_game}
use Rattle.cg_arena.proofs.unreduced.+unreduced.Given as goal

abbrev pub decreases-at_most_unreduced : goal.decreases-at_most_unreduced
decreases-at_most_unreduced l = 3 * depth_of (game_of l.arena.now l.index) + 1

abbrev pub decreases-compared_with_unreduced : goal.decreases-compared_with_unreduced
decreases-compared_with_unreduced l = 3 * depth_of (game_of l.arena.now l.index)

abbrev pub decreases-first_at_most : goal.decreases-first_at_most
decreases-first_at_most l = 3 * deepest (games_of l.arena.now l.list.now) + 2

abbrev pub invariant-first_at_most-loop-option : goal.invariant-first_at_most-loop-option
invariant-first_at_most-loop-option l = record {
  known : AreKnown l.arena l.unreduced l.answers l.verdicts;
  none : no_one (λ a. at_most l.left a (unreduced_game l.arena l.unreduced)) (games_of l.arena (take l.option-index l.list)) ≡ true;
}

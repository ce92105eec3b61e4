use Rattle.std.proofs.Common.{◌+◌, ◌*◌}
use Rattle.cg_form.specs.Depth.{deepest, depth_of}
use Rattle.cg_arena.specs.Arena.{game_of, games_of}
use Rattle.cg_arena.proofs.ListOrder.{Passed}
use Rattle.cg_arena.proofs.structure.+compare.Given as goal

abbrev pub decreases-compare : goal.decreases-compare
decreases-compare l = 2 * depth_of (game_of l.arena.now l.a)

abbrev pub decreases-compare_lists : goal.decreases-compare_lists
decreases-compare_lists l = 2 * deepest (games_of l.arena.now l.a.now) + 1

abbrev pub invariant-compare_lists-loop-i : goal.invariant-compare_lists-loop-i
invariant-compare_lists-loop-i l = Passed l.arena l.a l.b l.i

use Rattle.std.proofs.Common.{◌≡◌, ◌≤◌, ◌+◌, ◌*◌, drop, length}
use Rattle.cg_form.specs.Forms.{game_of, games_of}
use Rattle.cg_form.specs.Size.{list_size, size}
use Rattle.cg_form.specs.Structure.{order_of_lists}
use Rattle.cg_form.proofs.compare.+compare.Given as goal

abbrev pub decreases-compare_lists : goal.decreases-compare_lists
decreases-compare_lists l = 2 * list_size l.a.now + 1

abbrev pub decreases-compare_structure : goal.decreases-compare_structure
decreases-compare_structure l = 2 * size (game_of l.a.now)

abbrev pub invariant-compare_lists-loop-i : goal.invariant-compare_lists-loop-i
invariant-compare_lists-loop-i l = record {
  along : l.i ≤ length l.right;
  rest : order_of_lists l.a l.b ≡ order_of_lists (games_of (drop l.i l.left)) (games_of (drop l.i l.right));
}

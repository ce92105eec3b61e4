use Rattle.std.proofs.Common.{◌+◌, ◌*◌, take}
use Rattle.cg_form.specs.Depth.{deepest, depth_of}
use Rattle.cg_arena.specs.Arena.{game_of, games_of}
use Rattle.cg_arena.specs.Passed.{AreSubstitutes}
use Rattle.cg_arena.specs.UnreducedGames.{AreKnown, unreduced_game}
use Rattle.cg_arena.proofs.Bypassing.{Bypassed}
use Rattle.cg_arena.proofs.bypass.+bypass.Given as goal

abbrev pub decreases-bypass_through : goal.decreases-bypass_through
decreases-bypass_through l = 4 * depth_of (game_of l.arena.now l.answer)

abbrev pub decreases-bypass : goal.decreases-bypass
decreases-bypass l = 4 * depth_of (game_of l.arena.now l.option) + 1

abbrev pub decreases-bypass_once : goal.decreases-bypass_once
decreases-bypass_once l = 4 * depth_of (game_of l.arena.now l.option) + 2

abbrev pub decreases-bypass_list : goal.decreases-bypass_list
decreases-bypass_list l = 4 * deepest (games_of l.arena.now l.list.now) + 3

abbrev pub invariant-bypass_list-loop-option : goal.invariant-bypass_list-loop-option
invariant-bypass_list-loop-option l = record {
  known : AreKnown l.arena l.unreduced l.answers l.verdicts;
  out : AreSubstitutes l.arena l.left l.unreduced l.out;
  so_far : Bypassed l.arena l.left (unreduced_game l.arena l.unreduced) (take l.option-index l.list) l.fn.out.items.items l.out.items.items;
}

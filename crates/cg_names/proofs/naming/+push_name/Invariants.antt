use Rattle.std.proofs.Common.{◌+◌, ◌*◌, length, max, string_bytes}
use Rattle.cg_form.specs.Depth.{deepest, depth_of}
use Rattle.cg_arena.specs.Arena.{game_of, games_of}
use Rattle.cg_names.specs.Memos.{Recalls}
use Rattle.cg_names.proofs.Names.{Written}
use Rattle.cg_names.proofs.naming.+push_name.Given as goal

abbrev pub decreases-push_name : goal.decreases-push_name
decreases-push_name l = 4 * depth_of (game_of l.arena.now l.game)

abbrev pub decreases-push_names : goal.decreases-push_names
decreases-push_names l = 4 * deepest (games_of l.arena.now l.games.now) + 2

abbrev pub decreases-push_further : goal.decreases-push_further
decreases-push_further l = 4 * deepest (games_of l.arena.now l.games.now) + 1

abbrev pub invariant-push_further-loop-first : goal.invariant-push_further-loop-first
invariant-push_further-loop-first l = record {
  written : Written l.fn.arena (string_bytes l.initial.text) (string_bytes l.text) l.fn.games l.rest;
  recalls : Recalls l.fn.arena l.memo;
}

abbrev pub decreases-push_further-loop-first : goal.decreases-push_further-loop-first
decreases-push_further-loop-first l = length l.rest

abbrev pub decreases-push_braces : goal.decreases-push_braces
decreases-push_braces l = 4 * max (deepest (games_of l.arena.now l.lefts.now))
    (deepest (games_of l.arena.now l.rights.now)) + 3

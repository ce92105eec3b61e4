use Rattle.std.proofs.Common.{take}
use Rattle.cg_form.specs.Bypass.{Fine}
use Rattle.cg_form.specs.Game.{Among, Game}
use Rattle.cg_arena.specs.Arena.{games_of}
use Rattle.cg_arena.specs.UnreducedGames.{AreKnown, unreduced_game}
use Rattle.cg_arena.proofs.staying.all_stay.Given as goal

abbrev pub invariant-loop-option : goal.invariant-loop-option
invariant-loop-option l = record {
  known : AreKnown l.arena l.unreduced l.answers l.verdicts;
  fine : (x : Game) → Among x (games_of l.arena (take l.option-index l.option-items)) → Fine l.left (unreduced_game l.arena l.unreduced) x;
}

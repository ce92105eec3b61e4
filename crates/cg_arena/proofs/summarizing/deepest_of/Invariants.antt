use Rattle.std.proofs.Common.{◌≡◌, ◌≤◌, ◌^◌, take}
use Rattle.cg_form.specs.Depth.{deepest as deepest_in}
use Rattle.cg_arena.specs.Arena.{games_of}
use Rattle.cg_arena.proofs.summarizing.deepest_of.Given as goal

abbrev pub invariant-loop-option : goal.invariant-loop-option
invariant-loop-option l = record {
  deepest : l.greatest ≡ deepest_in (games_of l.arena (take l.option-index l.options));
  small : l.greatest ≤ 2 ^ 32;
}

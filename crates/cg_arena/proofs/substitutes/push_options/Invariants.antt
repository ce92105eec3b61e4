use Rattle.std.proofs.Common.{◌≡◌, ◌++◌, take}
use Rattle.cg_arena.proofs.substitutes.push_options.Given as goal

abbrev pub invariant-loop-x : goal.invariant-loop-x
invariant-loop-x l = l.options.items ≡ l.fn.options.items ++ take l.x-index l.all

use Rattle.std.proofs.Common.{◌≡◌, take}
use Rattle.cg_cells.proofs.plain.narrow.Given as goal

abbrev pub invariant-loop-word : goal.invariant-loop-word
invariant-loop-word l = l.narrow.items ≡ take l.word-index l.words

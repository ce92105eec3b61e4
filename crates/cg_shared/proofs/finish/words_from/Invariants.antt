use Rattle.std.proofs.Common.{◌≡◌, ℕ, ◌+◌, ◌<◌, length}
use Rattle.std.specs.Prelude.{slice_index}
use Rattle.cg_shared.proofs.finish.words_from.Given as goal

abbrev pub invariant-loop-i : goal.invariant-loop-i
invariant-loop-i l = (length l.words.items ≡ l.i) × ((k : ℕ) → k < l.i → slice_index l.words.items k ≡ slice_index l.closed.words.items (l.first + k))

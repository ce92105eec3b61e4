-- What a memo has.
use Rattle.std.specs.Prelude.{ℕ}
use Rattle.std.specs.List.{Contains}
use Rattle.cg_canon.specs.declared.memo.AddedSum.{AddedSum}
use Rattle.cg_canon.specs.declared.memo.KnownSum.{KnownSum}
use Rattle.cg_canon.specs.declared.memo.Memo.{Memo}

abbrev pub added_sum : ℕ → ℕ → KnownSum → AddedSum
added_sum a b known = record { a = a; b = b; known = known }

-- the memo has the sum for a pair of ids
abbrev pub IsAdded : Memo → ℕ → ℕ → KnownSum → Type 0
IsAdded m a b known = Contains m.sums.items (added_sum a b known)

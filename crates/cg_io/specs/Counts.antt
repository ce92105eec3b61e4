-- How a sink counts the bytes that it took, where it tells none of them.
use Rattle.std.specs.Prelude.{ℕ, ◌+◌, ◌≡◌, Option, Some, None, Result, Ok, Err, IfSome}

-- n more bytes were counted, where they are counted before and now. What isn't counted stays so
abbrev pub CountsMore : ℕ → Option ℕ → Option ℕ → Type 0
CountsMore n None now = now ≡ None
CountsMore n (Some m) now = IfSome now (λ k. k ≡ m + n)

abbrev pub counts_after : {E : Type 0} → ℕ → Option ℕ → Result ℕ E → Type 0
counts_after {E} m now (Ok n) = CountsMore n (Some m) now
counts_after {E} m now (Err e) = now ≡ Some m

-- as many more as the call took
abbrev pub CountsTaken : {E : Type 0} → Option ℕ → Option ℕ → Result ℕ E → Type 0
CountsTaken {E} None now result = now ≡ None
CountsTaken {E} (Some m) now result = counts_after m now result

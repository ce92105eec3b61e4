-- The lines of a session.
use Rattle.std.specs.Prelude.{ℕ, ◌+◌, Bool, false, cond, not, ◌==◌, List, [], ◌∷◌, ◌++◌}
use Rattle.cg_reading.specs.Readers.{skipped}
use Rattle.cg_reading.specs.Tokens.{blank}

-- one more byte before the first line
abbrev pub onto_first : ℕ → List (List ℕ) → List (List ℕ)
onto_first b [] = (b ∷ []) ∷ []
onto_first b (line ∷ lines) = (b ∷ line) ∷ lines

-- The text cut at each LF. A last piece without LF is a line if it isn't empty.
abbrev pub lines_of : List ℕ → List (List ℕ)
lines_of [] = []
lines_of (b ∷ bytes) = cond (b == 10) ([] ∷ lines_of bytes) (onto_first b (lines_of bytes))

-- whether a line gets an answer that has these bytes behind its first blanks: no blank line does, and no comment, which
-- begins with #
abbrev pub answered_behind : List ℕ → Bool
answered_behind [] = false
answered_behind (b ∷ bytes) = not (b == 35)

-- a line that gets an answer: one that is neither blank nor a comment
abbrev pub is_answered : List ℕ → Bool
is_answered line = answered_behind (skipped blank line)

-- the line with the number n, if it gets an answer
abbrev pub answered_at : ℕ → List ℕ → List (ℕ × List ℕ)
answered_at n line = cond (is_answered line) ((n, line) ∷ []) []

-- those of these lines that get an answer, each with its number; the first line has the number n
abbrev pub answered_from : ℕ → List (List ℕ) → List (ℕ × List ℕ)
answered_from n [] = []
answered_from n (line ∷ lines) = answered_at n line ++ answered_from (n + 1) lines

-- How many levels the expressions of a session have, which bounds each walk over them.
use Rattle.std.specs.Prelude.{ℕ, ◌≤◌, List, [], ◌∷◌}
use Rattle.cg_query.specs.Heights.{QuestionIs, height}
use Rattle.cg_syntax.specs.Session.{Resolved, Asked_of}

-- no expression of this question has more than 1,024 levels
abbrev pub IsLowLine : Resolved → Type 0
IsLowLine (Asked_of q) = QuestionIs (λ t. height t ≤ 1024) q
IsLowLine _ = Unit {0}

-- no expression of a question of these lines has more
abbrev pub AreLowLines : List (ℕ × Resolved) → Type 0
AreLowLines [] = Unit {0}
AreLowLines (r ∷ rs) = IsLowLine r.1 × AreLowLines rs

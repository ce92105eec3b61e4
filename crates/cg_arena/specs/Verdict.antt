-- What verdicts have.
use Rattle.std.specs.Prelude.{ℕ, Bool, cond, List, [], ◌∷◌, Option, Some, None, nat_eq}
use Rattle.std.specs.HashMap.{get}
use Rattle.cg_arena.specs.declared.verdicts.ByIndex.{ByIndex}
use Rattle.cg_arena.specs.declared.verdicts.Noted.{Noted}
use Rattle.cg_arena.specs.declared.verdicts.Verdicts.{Verdicts}

-- the first answer for an index, where there is one
abbrev pub noted : List Noted → ℕ → Option Bool
noted [] index = None
noted (entry ∷ entries) index = cond (nat_eq entry.index index) (Some entry.answer) (noted entries index)

-- the first of two answers that is there
abbrev pub either : Option Bool → Option Bool → Option Bool
either (Some answer) other = Some answer
either None other = other

-- the answer for an index
abbrev pub answer_for : ByIndex → ℕ → Option Bool
answer_for a index = either (noted a.few.items index) (get nat_eq a.more index)

-- the answer for a player and an index
abbrev pub verdict : Verdicts → Bool → ℕ → Option Bool
verdict v s index = cond s (answer_for v.for_left index) (answer_for v.for_right index)

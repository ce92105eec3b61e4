-- What a clause sees of a store of cells.
use Rattle.std.specs.Prelude.{◌≡◌, ℕ, ◌+◌, List, Option, IsSome}
use Rattle.std.specs.FinMap as map
use Rattle.std.specs.Ordering.{nat_cmp}
use Rattle.cg_cells.specs.Meaning.{Grows, Has}

-- The things that are known of ids, the noted ids, how many claims are left, and data of the store's own kind
pub record State (X R : Type 0) : Type 0 where
  pub known : map.FinMap nat_cmp X
  pub noted : List ℕ
  pub spare : ℕ
  pub rest : R

-- the thing that an id is known to be
abbrev pub thing_at : {X R : Type 0} → State X R → ℕ → Option X
thing_at {X} {R} s = map.get s.known

-- the id is known to be some thing
abbrev pub Known : {X R : Type 0} → State X R → ℕ → Type 0
Known {X} {R} s id = IsSome (thing_at s id)

abbrev pub IsSublist : List ℕ → List ℕ → Type 0
IsSublist xs ys = (x : ℕ) → Has xs x → Has ys x

-- what was known is known as the same thing, what was noted is noted, the rest is the same, and the spare has fallen by n
pub record Spends {X R : Type 0} (n : ℕ) (s t : State X R) : Type 0 where
  pub known : Grows (thing_at s) (thing_at t)
  pub noted : IsSublist s.noted t.noted
  pub spare : t.spare + n ≡ s.spare
  pub rest : t.rest ≡ s.rest

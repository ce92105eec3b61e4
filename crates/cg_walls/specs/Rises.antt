-- Functions of t = 0, 1, 2, .. that in each unit rise by 1 or stay where they are.
use Rattle.std.specs.Prelude.{ℕ, ◌<◌, nat_lt, min, zero, suc, ℤ, pos, ◌+ℤ◌, ◌-ℤ◌, ◌≤ℤ◌, neg_ℤ, Bool, true, false, not, if◌then◌else◌, List, [], ◌∷◌}
use Rattle.cg_walls.specs.declared.TheConstants.{BOUND, END}
use Rattle.cg_walls.specs.declared.rise.Rise.{Rise}

-- whether it rises from u to u + 1, where it rises at first or not and turns at each of the times
abbrev pub rises_at : Bool → List ℕ → ℕ → Bool
rises_at up [] u = up
rises_at up (t ∷ ts) u = if nat_lt u t then up else rises_at (not up) ts u

abbrev pub step : Bool → ℤ
step true = pos 1
step false = pos 0

-- what k units add in which it goes on so
abbrev pub steps : Bool → ℕ → ℤ
steps true k = pos k
steps false k = pos 0

-- the value at t, from the value at 0 and from whether it rises in each unit
abbrev pub climbed : ℤ → (ℕ → Bool) → ℕ → ℤ
climbed n up zero = n
climbed n up (suc t) = climbed n up t +ℤ step (up t)

abbrev pub rises_of : Rise → ℕ → Bool
rises_of r = rises_at r.first r.turns.items

unfoldable pub value_at : Rise → ℕ → ℤ
value_at r t = climbed r.start (rises_of r) t

-- the times rise strictly, above the one and below the other end
abbrev pub Climbs : ℕ → List ℕ → ℕ → Type 0
Climbs low [] high = Unit {0}
Climbs low (t ∷ ts) high = (low < t) × (t < high) × Climbs t ts high

-- a wall: its turns rise strictly from above 0, and it stays within the bound
pub record IsWall (r : Rise) : Type 0 where
  pub turns : Climbs 0 r.turns.items END
  pub low : neg_ℤ BOUND ≤ℤ r.start
  pub high : (t : ℕ) → value_at r t ≤ℤ BOUND

-- how far the two together are above twice t
abbrev pub gap : Rise → Rise → ℕ → ℤ
gap a b t = (value_at a t +ℤ value_at b t) -ℤ (pos t +ℤ pos t)

-- t less the value of the rise at t, up to the end; from the end on it keeps the value that it has there
abbrev pub turned : Rise → ℕ → ℕ → ℤ
turned r end t = pos (min t end) -ℤ value_at r (min t end)

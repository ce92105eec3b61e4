-- Where a walk along a rise has come to.
use Rattle.std.specs.Prelude.{◌≡◌, ℕ, ◌≤◌, ◌+◌, min, ◌-ℤ◌, ◌≤ℤ◌, neg_ℤ, unsigned_abs, Bool, true, false, ◌||◌, ◌&&◌, not, if◌then◌else◌, List, [], ◌∷◌, drop}
use lib.Signed.{le_z, lt_z}
use Rattle.cg_walls.specs.declared.TheConstants.{BOUND, END}
use Rattle.cg_walls.specs.declared.place.Place.{Place}
use Rattle.cg_walls.specs.declared.rise.Rise.{Rise}
use Rattle.cg_walls.specs.Rises.{Climbs, rises_at, rises_of, value_at}

-- the place is that of the time `now` on the rise
pub record At (r : Rise) (now : ℕ) (p : Place) : Type 0 where
  pub value : p.value ≡ value_at r now
  pub goes : (u : ℕ) → now ≤ u → rises_of r u ≡ rises_at p.up (drop p.passed r.turns.items) u
  pub ahead : Climbs now (drop p.passed r.turns.items) END

-- the first of the times, or the end of all times
abbrev pub first_of : List ℕ → ℕ
first_of [] = END
first_of (t ∷ ts) = t

-- when the place comes to its next turn
abbrev pub next_of : Rise → Place → ℕ
next_of r p = first_of (drop p.passed r.turns.items)

-- whether the greater of the two rises
abbrev pub leads : Place → Place → Bool
leads p q = if le_z p.value q.value then (if le_z q.value p.value then p.up || q.up else q.up) else p.up

-- when the lower, if it rises and the other stays, has come up with the other
abbrev pub catch_up : ℕ → Place → Place → ℕ
catch_up now p q =
    if lt_z p.value q.value && (p.up && not q.up) then now + unsigned_abs (q.value -ℤ p.value) else END

-- up to when the greater of the two goes as it goes now
abbrev pub event : Rise → Rise → ℕ → Place → Place → ℕ
event a b now p q = min (min (next_of a p) (next_of b q)) (min (catch_up now p q) (catch_up now q p))

-- the value is within the bound
pub record Within (p : Place) : Type 0 where
  pub low : neg_ℤ BOUND ≤ℤ p.value
  pub high : p.value ≤ℤ BOUND

-- how much the gap of two falls in one unit
abbrev pub fall : Bool → Bool → ℕ
fall true true = 0
fall true false = 1
fall false true = 1
fall false false = 2

-- The corners of a wall, in whole units.
use Rattle.std.specs.Prelude.{ℕ, zero, suc, ℤ, pos, ◌-ℤ◌, Bool, if◌then◌else◌, List, [], ◌∷◌, map}
use Rattle.std.specs.Ordering.{int_eq}
use Rattle.cg_walls.specs.Lines.{Mark}
use Rattle.cg_walls.specs.declared.bends.Point.{Point}

abbrev pub point : (ℕ → ℤ) → ℕ → Point
point w t = record { value = w t; at = t }

-- whether the slope after t + 1 is the slope before it
abbrev pub straight : (ℕ → ℤ) → ℕ → Bool
straight w t = int_eq (w (suc (suc t)) -ℤ w (suc t)) (w (suc t) -ℤ w t)

-- from t + 1 on: each point at which the slope changes, and the last point, n further on
abbrev pub turns : (ℕ → ℤ) → ℕ → ℕ → List Point
turns w t zero = point w (suc t) ∷ []
turns w t (suc n) = if straight w t then turns w (suc t) n else point w (suc t) ∷ turns w (suc t) n

-- the point at 0, each point strictly between 0 and the end at which the slope changes, and the point at the end, if that
-- is above 0
abbrev pub corners : (ℕ → ℤ) → ℕ → List Point
corners w zero = point w 0 ∷ []
corners w (suc n) = point w 0 ∷ turns w 0 n

-- the points, for the line through them
abbrev pub mark : Point → Mark
mark p = record { value = p.value; at = pos p.at }

abbrev pub marks : List Point → List Mark
marks ps = map mark ps

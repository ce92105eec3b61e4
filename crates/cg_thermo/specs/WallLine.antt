-- The wall that a list of corners draws: the line through them.
use Rattle.std.specs.Prelude.{◌≤◌, ℕ, List, [], ◌∷◌, map}
use Rattle.cg_dyadic.specs.Number.{Number, exp_of}
use Rattle.cg_dyadic.specs.Units.{units}
use Rattle.cg_dyadic.specs.Wide.{places}
use Rattle.cg_walls.specs.Lines.{Mark, OnLine, TimesRise}
use Rattle.cg_thermo.specs.declared.corners.Corner.{Corner}

-- the corner in units of 1 / 2 ^ s
abbrev pub mark_at : ℕ → Corner → Mark
mark_at s c = record { value = units s c.value; at = units s c.at }

abbrev pub marks_at : ℕ → List Corner → List Mark
marks_at s cs = map (mark_at s) cs

-- each corner is a whole number of units of 1 / 2 ^ s
abbrev pub AllWhole : ℕ → List Corner → Type 0
AllWhole s [] = Unit {0}
AllWhole s (c ∷ cs) = (exp_of c.value ≤ s) × (exp_of c.at ≤ s) × AllWhole s cs

-- each is a whole number of units of 1 / 2 ^ 60, and the times rise
pub record AreCorners (cs : List Corner) : Type 0 where
  pub whole : AllWhole places cs
  pub rise : TimesRise (marks_at places cs)

-- x is the value of the line at t: in units of each scale at which the corners, t and x are whole
pub record IsOnLine (cs : List Corner) (t x : Number) : Type 0 where
  pub value : (s : ℕ) → AllWhole s cs → exp_of t ≤ s → exp_of x ≤ s
      → OnLine (marks_at s cs) (units s t) (units s x)

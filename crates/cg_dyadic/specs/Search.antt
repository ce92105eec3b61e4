-- The search for the simplest number between two cuts: ends of a gap in units of a scale, and the coarsest scale at
-- which some unit lies between the ends.
use Rattle.std.specs.Prelude.{pos, neg_ℤ, ◌^◌, if◌then◌else◌, ℕ, ℤ, Bool, true, false, ◌≡◌, ◌≤◌, ◌<◌}
use Rattle.std.specs.Prelude.{◌-◌, zero, suc, IsTrue, unsigned_abs, Option, Some, None, ◌+ℤ◌, ◌-ℤ◌}
use lib.Signed.{◌≤ℤ◌, lt_z}
use Rattle.cg_dyadic.specs.declared.cut.Cut.{Cut}
use Rattle.cg_dyadic.specs.Exact.{IsLowest}
use Rattle.cg_dyadic.specs.Number.{Number, exp_of, half, ratio}
use Rattle.cg_dyadic.specs.Simplest.{NoOptionPasses}
use Rattle.cg_dyadic.specs.Units.{units}

abbrev pub AtLeast : Option ℤ → ℤ → Type 0
AtLeast None u = Unit {0}
AtLeast (Some a) u = a ≤ℤ u

abbrev pub AtMost : Option ℤ → ℤ → Type 0
AtMost None u = Unit {0}
AtMost (Some b) u = u ≤ℤ b

-- at the scale, the numbers that pass the test are those from a to b
pub record AtScale (s : ℕ) (a b : Option ℤ) (test : Number → Bool) : Type 0 where
  pub low : (x : Number) → exp_of x ≤ s → IsTrue (test x) → AtLeast a (units s x)
  pub high : (x : Number) → exp_of x ≤ s → IsTrue (test x) → AtMost b (units s x)
  pub passes : (x : Number) → exp_of x ≤ s → AtLeast a (units s x) → AtMost b (units s x) → IsTrue (test x)

-- n / 2 ^ e is in lowest terms, and passes the test while no option of it does
pub record FoundAt (test : Number → Bool) (n : ℤ) (e : ℕ) : Type 0 where
  pub lowest : IsLowest (unsigned_abs n) e
  pub simplest : NoOptionPasses test (ratio n e)

-- from -2 ^ 110 to 2 ^ 110
pub record Small (n : ℤ) : Type 0 where
  pub from_low : neg_ℤ (pos (2 ^ 110)) ≤ℤ n
  pub to_high : n ≤ℤ pos (2 ^ 110)

abbrev pub SmallEnd : Option ℤ → Type 0
SmallEnd None = Unit {0}
SmallEnd (Some n) = Small n

-- n and its neighbours are small
pub record SmallAround (n : ℤ) : Type 0 where
  pub up : Small (n +ℤ pos 1)
  pub down : Small (n -ℤ pos 1)
  pub here : Small n

-- the least u with 2 u at least the end, and the greatest with 2 u at most the end
abbrev pub half_of_low : Option ℤ → Option ℤ
half_of_low None = None
half_of_low (Some a) = Some (half (a +ℤ pos 1))

abbrev pub half_of_high : Option ℤ → Option ℤ
half_of_high None = None
half_of_high (Some b) = Some (half b)

-- the ends in units 2 ^ d times as large
abbrev pub coarse_low : ℕ → Option ℤ → Option ℤ
coarse_low zero a = a
coarse_low (suc d) a = half_of_low (coarse_low d a)

abbrev pub coarse_high : ℕ → Option ℤ → Option ℤ
coarse_high zero b = b
coarse_high (suc d) b = half_of_high (coarse_high d b)

-- ends in units of 1 / 2 ^ 41, in units of 1 / 2 ^ s
abbrev pub low_at : ℕ → Option ℤ → Option ℤ
low_at s a = coarse_low (41 - s) a

abbrev pub high_at : ℕ → Option ℤ → Option ℤ
high_at s b = coarse_high (41 - s) b

-- no unit lies between the ends
abbrev pub crossed : Option ℤ → Option ℤ → Bool
crossed (Some a) (Some b) = lt_z b a
crossed _ _ = false

-- s is the coarsest scale at which a unit lies between the ends
pub record Coarsest (a b : Option ℤ) (s : ℕ) : Type 0 where
  pub within : s ≤ 41
  pub some : crossed (low_at s a) (high_at s b) ≡ false
  pub none : (t : ℕ) → t < s → crossed (low_at t a) (high_at t b) ≡ true

-- the integer of least size from a to b
abbrev pub nearest : Option ℤ → Option ℤ → ℤ
nearest (Some a) None = if lt_z (pos 0) a then a else pos 0
nearest (Some a) (Some b) = if lt_z (pos 0) a then a else (if lt_z b (pos 0) then b else pos 0)
nearest None (Some b) = if lt_z b (pos 0) then b else pos 0
nearest None None = pos 0

-- the ends of a gap, in units of 1 / 2 ^ 41
abbrev pub first_unit : Option Cut → Option ℤ
first_unit None = None
first_unit (Some c) = Some (if c.closed then units 41 c.at +ℤ pos 1 else units 41 c.at)

abbrev pub last_unit : Option Cut → Option ℤ
last_unit None = None
last_unit (Some c) = Some (if c.closed then units 41 c.at -ℤ pos 1 else units 41 c.at)

-- a cut at a number of at most 40 binary places
abbrev pub ShortCut : Option Cut → Type 0
ShortCut None = Unit {0}
ShortCut (Some c) = exp_of c.at ≤ 40

-- the cut up to the number, where there is one
abbrev pub closed_cut : Option Number → Option Cut
closed_cut None = None
closed_cut (Some x) = Some (record { at = x; closed = true })

-- The line through points. It starts with the value of the first one and, from each point on, goes toward the value of
-- the next by as much as time passes.
use Rattle.std.specs.Prelude.{◌≡◌, ℤ, ◌+ℤ◌, ◌-ℤ◌, ◌*ℤ◌, ◌≤ℤ◌, ◌<ℤ◌, List, [], ◌∷◌, ◌++◌}
use Rattle.std.specs.Int.{int_signum}

-- a point: its value, and when
pub record Mark : Type 0 where
  pub value : ℤ
  pub at : ℤ

-- all points of the list are after t
abbrev pub AllAfter : ℤ → List Mark → Type 0
AllAfter t [] = Unit {0}
AllAfter t (c ∷ cs) = (t <ℤ c.at) × AllAfter t cs

-- c is the last of the points that is not after t, and these come behind it
pub record IsLastBy (t : ℤ) (cs : List Mark) (c : Mark) (behind : List Mark) : Type 0 where
  pub front : List Mark
  pub split : cs ≡ front ++ (c ∷ behind)
  pub come : c.at ≤ℤ t
  pub to_come : AllAfter t behind

-- n further on from a: n times the sign of b less a is added
abbrev pub further : ℤ → ℤ → ℤ → ℤ
further a b n = a +ℤ n *ℤ int_signum (b -ℤ a)

-- The value at t, where c is the last point that is not after t: that of c, if none comes behind it; else that of c plus
-- the time since c times the sign of the next point's value less that of c.
abbrev pub value_since : Mark → List Mark → ℤ → ℤ
value_since c [] t = c.value
value_since c (d ∷ ds) t = further c.value d.value (t -ℤ c.at)

-- The line through the points has the value x at t: that of the first point, if all are after t; else by the last point
-- that is not.
pub data OnLine (cs : List Mark) (t x : ℤ) : Type 0 where
  before_all : (c : Mark) (behind : List Mark) → cs ≡ c ∷ behind → AllAfter t cs → x ≡ c.value → OnLine cs t x
  since : (c : Mark) (behind : List Mark) → IsLastBy t cs c behind → x ≡ value_since c behind t → OnLine cs t x

-- ---- points in order

-- the first is after t, and each other one after the one before it
abbrev pub RiseAfter : ℤ → List Mark → Type 0
RiseAfter t [] = Unit {0}
RiseAfter t (c ∷ cs) = (t <ℤ c.at) × RiseAfter c.at cs

-- the times rise: each is after the one before it
abbrev pub TimesRise : List Mark → Type 0
TimesRise [] = Unit {0}
TimesRise (c ∷ cs) = RiseAfter c.at cs

-- Sets of bytes, as ranges.
use Rattle.std.specs.Prelude.{ℕ, ◌≡◌, Bool, true, false, ◌||◌, ◌&&◌, leb, List, [], ◌∷◌}

-- ranges of bytes, each from its first number to its second
abbrev pub Class : Type 0
Class = List (ℕ × ℕ)

-- whether the byte lies in one of the ranges
abbrev pub has : Class → ℕ → Bool
has [] b = false
has (r ∷ rs) b = (leb r.0 b && leb b r.1) || has rs b

-- no byte of the set comes next
abbrev pub Ends : Class → List ℕ → Type 0
Ends c [] = Unit {0}
Ends c (b ∷ bytes) = has c b ≡ false

-- a byte of the set comes first; nothing may stand there only where the flag says so
abbrev pub Begins : Class → Bool → List ℕ → Type 0
Begins c empty [] = empty ≡ true
Begins c empty (b ∷ bytes) = has c b ≡ true

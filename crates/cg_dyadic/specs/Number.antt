-- Dyadic numbers in lowest terms, with no bound.
-- Siegel, Combinatorial Game Theory (2013), II.3: the dyadic rationals and their canonical forms.
use Rattle.std.specs.Prelude.{ℕ, ℤ, pos, negsuc, Bool, ◌+◌, ◌/◌, ◌%◌, ◌^◌, ◌==◌, ◌+ℤ◌, List, [], ◌∷◌, if◌then◌else◌}
use Rattle.std.specs.Prelude.{zero, suc, ◌<◌, ◌≤◌, IsTrue, unsigned_abs, nat_lt, not, ◌&&◌, ◌⊎◌, ◌≡◌}
use Rattle.std.specs.declared.cmp.Ordering.{Ordering}
use Rattle.std.specs.declared.cmp.Ordering.TheVariants.{Less, Equal, Greater}
use lib.IntN.{◌*ℤ◌}
use lib.Signed.{le_z}

-- whole n is n, and between n k is (2 n + 1) / 2 ^ (k + 1), halfway between two neighbours of the denominator 2 ^ k
pub data Number : Type 0 where
  whole : ℤ → Number
  between : ℤ → ℕ → Number

-- the numerator
abbrev pub num_of : Number → ℤ
num_of (whole n) = n
num_of (between n k) = n +ℤ n +ℤ pos 1

-- the exponent of the denominator
abbrev pub exp_of : Number → ℕ
exp_of (whole n) = 0
exp_of (between n k) = k + 1

-- x is n / 2 ^ k: by cross multiplication
pub record IsFraction (n : ℤ) (k : ℕ) (x : Number) : Type 0 where
  pub crossed : num_of x *ℤ pos (2 ^ k) ≡ n *ℤ pos (2 ^ exp_of x)

-- x <= y: by cross multiplication
unfoldable pub number_le : Number → Number → Bool
number_le x y = le_z (num_of x *ℤ pos (2 ^ exp_of y)) (num_of y *ℤ pos (2 ^ exp_of x))

abbrev pub NumberLe : Number → Number → Type 0
NumberLe x y = IsTrue (number_le x y)

-- how two numbers are ordered
abbrev pub number_cmp : Number → Number → Ordering
number_cmp x y = if number_le x y then (if number_le y x then Equal else Less) else Greater

-- half of n, rounded down
abbrev pub half : ℤ → ℤ
half (pos n) = pos (n / 2)
half (negsuc n) = negsuc (n / 2)

abbrev pub is_even : ℤ → Bool
is_even (pos n) = n % 2 == 0
is_even (negsuc n) = n % 2 == 1

-- the number n / 2 ^ k
abbrev pub ratio : ℤ → ℕ → Number
ratio n zero = whole n
ratio n (suc k) = if is_even n then ratio (half n) k else between (half n) k

-- the options of a number: n + 1 = {n|}, -(n + 1) = {|-n}, (2 n + 1) / 2 ^ (k + 1) = {n / 2 ^ k | (n + 1) / 2 ^ k}
abbrev pub number_lefts : Number → List Number
number_lefts (whole (pos zero)) = []
number_lefts (whole (pos (suc n))) = whole (pos n) ∷ []
number_lefts (whole (negsuc n)) = []
number_lefts (between n k) = ratio n k ∷ []

abbrev pub number_rights : Number → List Number
number_rights (whole (pos n)) = []
number_rights (whole (negsuc n)) = whole (negsuc n +ℤ pos 1) ∷ []
number_rights (between n k) = ratio (n +ℤ pos 1) k ∷ []

-- x is one of the list
abbrev pub AmongNumbers : Number → List Number → Type 0
AmongNumbers x [] = ⊥
AmongNumbers x (y ∷ ys) = (x ≡ y) ⊎ AmongNumbers x ys

-- a size that is less at each option
abbrev pub weight : Number → ℕ
weight x = unsigned_abs (num_of x) + exp_of x

-- what a Dyadic holds: a numerator below 2 ^ 64 in size, over at most 2 ^ 40
pub record InRange (x : Number) : Type 0 where
  pub small : unsigned_abs (num_of x) < 2 ^ 64
  pub short : exp_of x ≤ 40

-- whether x is in range
abbrev pub is_in_range : Number → Bool
is_in_range x = nat_lt (unsigned_abs (num_of x)) (2 ^ 64) && nat_lt (exp_of x) 41

-- a number in range is narrow where its numerator is below 2 ^ 52 in size over at most 2 ^ 31, and long otherwise
abbrev pub is_narrow : Number → Bool
is_narrow x = nat_lt (unsigned_abs (num_of x)) (2 ^ 52) && nat_lt (exp_of x) 32

abbrev pub is_long : Number → Bool
is_long x = not (is_narrow x)

-- Long numbers in cells: two chunks of 32 bits, the least first, are the numerator in two's complement of 64 bits, and the key
-- has the sign and the exponent.
use Rattle.std.specs.Prelude.{ℕ, ℤ, pos, negsuc, ◌+◌, ◌-◌, ◌*◌, ◌/◌, ◌%◌, ◌^◌, ◌==◌, ◌&&◌, ◌||◌}
use Rattle.std.specs.Prelude.{nat_lt, unsigned_abs, Bool, true, false, if◌then◌else◌, List, [], ◌∷◌}
use Rattle.cg_dyadic.specs.Number.{Number, is_long, ratio}

-- the low 64 bits of the numerator, as they are written
abbrev pub bits_of : ℤ → ℕ
bits_of (pos n) = n
bits_of (negsuc n) = 2 ^ 64 - 1 - n

abbrev pub is_negative : ℤ → Bool
is_negative (pos n) = false
is_negative (negsuc n) = true

-- the two chunks of the numerator
abbrev pub chunks_of : ℤ → List ℕ
chunks_of n = bits_of n % 2 ^ 32 ∷ bits_of n / 2 ^ 32 ∷ []

-- the numerator of this sign with these bits
abbrev pub num_in : Bool → ℕ → ℤ
num_in false bits = pos bits
num_in true bits = negsuc (2 ^ 64 - 1 - bits)

-- n / 2 ^ e is a long number in range and in lowest terms
abbrev pub is_long_fraction : ℤ → ℕ → Bool
is_long_fraction n e = nat_lt (unsigned_abs n) (2 ^ 64) && nat_lt e 41 && ((e == 0) || (unsigned_abs n % 2 == 1)) && is_long (ratio n e)

-- the chunks have 32 bits each, and are those of a long number of this sign and exponent
abbrev pub is_long_written : Bool → ℕ → ℕ → ℕ → Bool
is_long_written negative exp low high =
    nat_lt low (2 ^ 32) && nat_lt high (2 ^ 32) && is_long_fraction (num_in negative (low + 2 ^ 32 * high)) exp

-- how many cells a number takes: its key's, and two chunks more where it is long
abbrev pub cells_of : Number → ℕ
cells_of x = if is_long x then 3 else 1

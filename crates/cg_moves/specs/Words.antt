-- Words by their bits.
use Rattle.std.specs.Prelude.{◌≡◌, ℕ, ◌==◌, Bool, if◌then◌else◌}
use Rattle.std.specs.Int.{bit_at}

-- the second word has this bit at the place, and elsewhere the bits of the first
abbrev pub IsWithBit : ℕ → ℕ → ℕ → ℕ → Type 0
IsWithBit word new place bit = (i : ℕ) → bit_at new i ≡ (if i == place then bit else bit_at word i)

-- the word has bit 1 exactly at the places that pass the test
abbrev pub Marks : ℕ → (ℕ → Bool) → Type 0
Marks word test = (i : ℕ) → bit_at word i ≡ (if test i then 1 else 0)

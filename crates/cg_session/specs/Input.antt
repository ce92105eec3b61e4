-- How much of a source was taken, where it tells its bytes.
use Rattle.std.specs.Prelude.{ℕ, ◌≡◌, ◌+◌, ◌^◌, ◌≤◌, ◌⊎◌, List, [], Option, Some, OnSome, length}
use Rattle.std.specs.Io.KnownBytes.{Consumes, IsAtEnd}

-- n bytes were taken
abbrev pub Takes : ℕ → Option (List ℕ) → Option (List ℕ) → Type 0
Takes n before now = (bytes : List ℕ) × Consumes before now bytes × (length bytes ≡ n)

-- n bytes were taken, or fewer
abbrev pub TakesAtMost : ℕ → Option (List ℕ) → Option (List ℕ) → Type 0
TakesAtMost n before now = (bytes : List ℕ) × Consumes before now bytes × (length bytes ≤ n)

-- all bytes that the source tells were taken
abbrev pub ReadsAll : Option (List ℕ) → Option (List ℕ) → Type 0
ReadsAll before now = OnSome before (now ≡ Some [])

-- the source was read to its end, or until one byte more than an input may have was taken
abbrev pub ReadsOut : Option (List ℕ) → Option (List ℕ) → Type 0
ReadsOut before now = Takes (2 ^ 20 + 1) before now ⊎ IsAtEnd now

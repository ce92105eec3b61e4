-- Numbers at a common scale.
use Rattle.std.specs.Prelude.{ℕ, ℤ, ◌-◌, ◌+ℤ◌, zero, suc}
use Rattle.cg_dyadic.specs.Number.{Number, exp_of, num_of}

-- n * 2 ^ d
abbrev pub doubled : ℕ → ℤ → ℤ
doubled zero n = n
doubled (suc d) n = doubled d n +ℤ doubled d n

-- the number in units of 1 / 2 ^ s, for a scale s of at least its exponent
abbrev pub units : ℕ → Number → ℤ
units s x = doubled (s - exp_of x) (num_of x)

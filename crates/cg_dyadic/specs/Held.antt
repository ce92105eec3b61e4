-- What the fields of a number and of a wall value hold: fields that a value gives back, so that of each value there is one.
use Rattle.std.specs.Prelude.{◌≡◌, ℕ, ◌^◌, ◌<◌, ◌≤◌, ℤ, unsigned_abs}
use Rattle.cg_dyadic.specs.Number.{exp_of, num_of, ratio}
use Rattle.cg_dyadic.specs.Units.{units}
use Rattle.cg_dyadic.specs.Wide.{places}

-- m and e are the numerator and the exponent of a number in range, the one that they make
pub record InLowest (m : ℤ) (e : ℕ) : Type 0 where
  pub num_is : num_of (ratio m e) ≡ m
  pub exp_is : exp_of (ratio m e) ≡ e
  pub small : unsigned_abs m < 2 ^ 64
  pub short : e ≤ 40

-- so many units are a wall value
pub record IsWideWord (n : ℤ) : Type 0 where
  pub round : units places (ratio n places) ≡ n
  pub small : unsigned_abs n < 2 ^ 126

-- Wall values: numbers of at most 60 binary places and of a size below 2 ^ 66, in units of 1 / 2 ^ 60.
use Rattle.std.specs.Prelude.{ℕ, ◌*◌, ◌^◌, ◌<◌, ◌≤◌, ℤ, unsigned_abs, Option, Some, None, List, [], ◌++◌, ◌==◌, if◌then◌else◌, codes, decimal}
use Rattle.std.specs.Fmt.{signed_decimal}
use Rattle.cg_dyadic.specs.Exact.{IsSum}
use Rattle.cg_dyadic.specs.Number.{Number, exp_of, num_of}

-- how many binary places a wall value has at most
unfoldable pub places : ℕ
places = 60

-- the number is a wall value
pub record InWide (x : Number) : Type 0 where
  pub short : exp_of x ≤ places
  pub small : unsigned_abs (num_of x) < 2 ^ 66 * 2 ^ exp_of x

-- the sum where it is a wall value, or nothing where it isn't
abbrev pub IsWideSum : Number → Number → Option Number → Type 0
IsWideSum x y (Some z) = IsSum x y z × InWide z
IsWideSum x y None = (z : Number) → IsSum x y z → ¬ InWide z

-- half of the number where it is a wall value, or nothing where it isn't
abbrev pub IsWideHalf : Number → Option Number → Type 0
IsWideHalf x (Some z) = IsSum z z x × InWide z
IsWideHalf x None = (z : Number) → IsSum z z x → ¬ InWide z

-- num, or num/2 ^ exp with the denominator written out
abbrev pub terms_text : ℤ → ℕ → List ℕ
terms_text num exp = signed_decimal num ++ (if exp == 0 then [] else codes "/" ++ decimal (2 ^ exp))

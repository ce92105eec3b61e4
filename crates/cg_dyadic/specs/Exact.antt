-- Exact results of arithmetic, and texts.
use Rattle.std.specs.Prelude.{◌+◌, ℕ, ℤ, pos, neg_ℤ, Bool, true, false, ◌^◌, ◌%◌, ◌⊎◌, ◌==◌, ◌≡◌, ◌+ℤ◌, ◌*ℤ◌, List}
use Rattle.std.specs.Prelude.{[], ◌++◌, if◌then◌else◌, codes, decimal, Option, Some, None, Result, Ok, Err}
use Rattle.std.specs.Fmt.{signed_decimal}
use Rattle.cg_dyadic.specs.declared.fault.RangeFault.{RangeFault}
use Rattle.cg_dyadic.specs.Number.{InRange, IsFraction, Number, exp_of, num_of, ratio}

-- the fault holds the number in lowest terms
pub record Holds (f : RangeFault) (x : Number) : Type 0 where
  pub num : f.num ≡ num_of x
  pub exp : f.exp ≡ exp_of x

-- n / 2 ^ k where it is in range, and else a fault that holds it
abbrev pub IsExact : ℤ → ℕ → Result Number RangeFault → Type 0
IsExact n k (Ok x) = IsFraction n k x × InRange x
IsExact n k (Err f) = (x : Number) × IsFraction n k x × Holds f x × (¬ InRange x)

-- the numerator of the sum of x and y over the product of their denominators
abbrev pub sum_num : Number → Number → ℤ
sum_num x y = (num_of x *ℤ pos (2 ^ exp_of y)) +ℤ (num_of y *ℤ pos (2 ^ exp_of x))

-- z is the sum of x and y
abbrev pub IsSum : Number → Number → Number → Type 0
IsSum x y z = IsFraction (sum_num x y) (exp_of x + exp_of y) z

-- y is the negative of x
pub record IsNegative (x y : Number) : Type 0 where
  pub num : num_of y ≡ neg_ℤ (num_of x)
  pub exp : exp_of y ≡ exp_of x

-- the negative of x
abbrev pub number_negative : Number → Number
number_negative x = ratio (neg_ℤ (num_of x)) (exp_of x)

-- the number of this sign and size
abbrev pub signed_of : Bool → ℕ → ℤ
signed_of true n = neg_ℤ (pos n)
signed_of false n = pos n

-- x is num / den with this sign, and den is a power of two
pub record IsQuotient (negative : Bool) (num den : ℕ) (x : Number) : Type 0 where
  pub exp : ℕ
  pub power : den ≡ 2 ^ exp
  pub value : IsFraction (signed_of negative num) exp x

-- the number that the digits spell, or nothing where there is none in range
abbrev pub IsFromDigits : Bool → ℕ → ℕ → Option Number → Type 0
IsFromDigits negative num den (Some x) = IsQuotient negative num den x × InRange x
IsFromDigits negative num den None = (x : Number) → IsQuotient negative num den x → ¬ InRange x

-- n, or n/d with the denominator d written out
abbrev pub number_text : Number → List ℕ
number_text x = signed_decimal (num_of x) ++ (if exp_of x == 0 then [] else codes "/" ++ decimal (2 ^ exp_of x))

-- in lowest terms: over 1, or an odd number over a power of two
abbrev pub IsLowest : ℕ → ℕ → Type 0
IsLowest size exp = (exp ≡ 0) ⊎ (size % 2 ≡ 1)

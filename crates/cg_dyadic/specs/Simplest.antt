-- The simplest number that passes a test.
-- Siegel, Combinatorial Game Theory (2013), II.3: the Simplicity Theorem.
use Rattle.std.specs.Prelude.{Bool, false, not, ◌&&◌, ◌≡◌, ◌<◌, ◌⊎◌, IsTrue, unsigned_abs, Option, Some, None}
use Rattle.cg_dyadic.specs.declared.fault.RangeFault.{RangeFault}
use Rattle.cg_dyadic.specs.Exact.{Holds}
use Rattle.cg_dyadic.specs.Number.{AmongNumbers, InRange, Number, NumberLe, exp_of, num_of, number_le, number_lefts, number_rights}

-- of two numbers the one with the less exponent is simpler, and of two integers the one of less size
abbrev pub Simpler : Number → Number → Type 0
Simpler x y = (exp_of x < exp_of y) ⊎ ((exp_of x ≡ 0) × (exp_of y ≡ 0) × (unsigned_abs (num_of x) < unsigned_abs (num_of y)))

-- x passes the test, and is simpler than every other number that passes
pub record SimplestFor (test : Number → Bool) (x : Number) : Type 0 where
  pub passes : IsTrue (test x)
  pub simplest : (y : Number) → IsTrue (test y) → (x ≡ y) ⊎ Simpler x y

-- x passes the test, and no option of x does
pub record NoOptionPasses (test : Number → Bool) (x : Number) : Type 0 where
  pub passes : IsTrue (test x)
  pub no_left : (y : Number) → AmongNumbers y (number_lefts x) → test y ≡ false
  pub no_right : (y : Number) → AmongNumbers y (number_rights x) → test y ≡ false

-- no number passes the test
abbrev pub NonePasses : (Number → Bool) → Type 0
NonePasses test = (x : Number) → test x ≡ false

-- the first is less than the second, where both are given
abbrev pub Apart : Option Number → Option Number → Type 0
Apart (Some p) (Some q) = ¬ NumberLe q p
Apart _ _ = Unit {0}

abbrev pub is_at_most : Option Number → Number → Bool
is_at_most None x = false
is_at_most (Some p) x = number_le x p

abbrev pub is_at_least : Option Number → Number → Bool
is_at_least None x = false
is_at_least (Some q) x = number_le q x

-- whether x is greater than the first and less than the second, where they are given
abbrev pub strictly_between : Option Number → Option Number → Number → Bool
strictly_between low high x = not (is_at_most low x) && not (is_at_least high x)

-- the fault holds the simplest number that passes the test, which is out of range
pub record SimplestIsOutside (test : Number → Bool) (f : RangeFault) : Type 0 where
  pub value : Number
  pub held : Holds f value
  pub outside : ¬ InRange value
  pub simplest : SimplestFor test value

-- Texts that are pieces of a line: numbers in base ten.
use Rattle.std.proofs.Common.{◌≡◌, refl, ap, sym, ℕ, ◌+◌, ◌^◌, ◌%◌, ◌<◌, arith, List, [], ◌∷◌, ◌++◌, length, length-append, Bool, true, false, ◌&&◌}
use Rattle.std.specs.Prelude.{decimal}
use Rattle.std.specs.List.{list_all}
use Rattle.std.proofs.lemmas.Fmt.{decimal_by_steps_wide, decimal_is_IsNumeral_wide, length-decimal-le_wide}
use Rattle.std.proofs.lemmas.Bool.Decides.{nat_tests}
use Rattle.cg_reading.specs.Bytes.{has}
use Rattle.cg_reading.specs.Tokens.{digit, digits}
use Rattle.cg_reading.proofs.Spelled.{made_as}

-- ---- digits

-- one digit or more
pub record Digits (ds : List ℕ) : Type 0 where
  pub within : list_all (has digit) ds ≡ true
  pub some : 0 < length ds

pub digit_is : (n : ℕ) → n < 10 → has digit (48 + n) ≡ true
digit_is n l = grind (arith, nat_tests)

pub all_append : (xs ys : List ℕ) → list_all (has digit) xs ≡ true → list_all (has digit) ys ≡ true
    → list_all (has digit) (xs ++ ys) ≡ true
all_append [] ys p q = q
all_append (x ∷ xs) ys p q = by (has digit x) (λ e. all_append xs ys e q) p
  where
    by : (b : Bool) → (list_all (has digit) xs ≡ true → list_all (has digit) (xs ++ ys) ≡ true)
        → (b && list_all (has digit) xs) ≡ true → (b && list_all (has digit) (xs ++ ys)) ≡ true
    by true f e = f e
    by false f e = absurd (cc)

pub one_digit : (n : ℕ) → n < 10 → Digits ((48 + n) ∷ [])
one_digit n l = record { within = ap (λ b. b && true) (digit_is n l); some = omega arith }

pub more_digits : (n : ℕ) (ds : List ℕ) → Digits ds → n < 10 → Digits (ds ++ ((48 + n) ∷ []))
more_digits n ds d l = record {
  within = all_append ds ((48 + n) ∷ []) d.within (one_digit n l).within;
  some = let s = d.some in let e = length-append ds ((48 + n) ∷ []) in omega arith;
}

pub short : (n : ℕ) → n < 10 ^ 30 → n < 10 ^ 64
short n l = omega arith

pub decimal_digits : (n : ℕ) → n < 10 ^ 30 → Digits (decimal n)
decimal_digits n l = decimal_by_steps_wide (λ m ds. Digits ds) one_digit
    (λ m ds t d. more_digits (m % 10) ds d (omega arith)) n (short n l)

pub digits_are : (i n : ℕ) → n < 10 ^ 30 → digits i n (decimal n)
digits_are i n l = made_as (decimal n) (let d = decimal_digits n l in
    record { within = d.within; some = d.some; few = length-decimal-le_wide 30 n (omega arith) l (short n l); spelled = refl }) (sym (decimal_is_IsNumeral_wide n (short n l)).1)

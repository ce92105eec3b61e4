-- The digits that a numeral writes, in front of the text of a certificate.
use Rattle.std.proofs.Common.{◌≡◌, ap, ◌∙◌, ℕ, ◌+◌, ◌%◌, ◌<◌, ◌^◌, arith, true, List, [], ◌∷◌, ◌++◌, cond}
use Rattle.std.specs.Prelude.{codes, decimal, take_while}
use Rattle.std.proofs.lemmas.Bool.Decides.{nat_tests}
use Rattle.std.proofs.lemmas.Fmt.{decimal_by_steps}
use Rattle.std.proofs.lemmas.List.Sums.{take_while-cons}
use Rattle.cg_cert.specs.Certificate.{Certificate, answered, answers_text, certificate_text, settled}
use Rattle.cg_cert.specs.Reads.{is_digit}

abbrev AreDigits : List ℕ → Type 0
AreDigits [] = Unit {0}
AreDigits (d ∷ ds) = (is_digit d ≡ true) × AreDigits ds

digits-append : (ds es : List ℕ) → AreDigits ds → AreDigits es → AreDigits (ds ++ es)
digits-append [] es a b = b
digits-append (d ∷ ds) es a b = (a.0, digits-append ds es a.1 b)

digit : (n : ℕ) → n < 10 → is_digit (48 + n) ≡ true
digit n l = grind (arith, nat_tests)

decimal-digits : (i : ℕ) → i < 2 ^ 64 → AreDigits (decimal i)
decimal-digits i l = decimal_by_steps (λ n ds. AreDigits ds) (λ n m. (digit n m, tt))
    (λ n ds m a. digits-append ds ((48 + n % 10) ∷ []) a (digit (n % 10) (omega arith), tt)) i l

-- digits in front of what begins with none
front : (ds ys : List ℕ) → AreDigits ds → take_while is_digit ys ≡ [] → take_while is_digit (ds ++ ys) ≡ ds
front [] ys a e = e
front (d ∷ ds) ys a e =
    take_while-cons is_digit d (ds ++ ys) ∙ ap (λ z. cond z (d ∷ take_while is_digit (ds ++ ys)) []) a.0
    ∙ ap (λ z. d ∷ z) (front ds ys a.1 e)

no_digits : (c : Certificate) (rest : List ℕ) → take_while is_digit (certificate_text c ++ rest) ≡ []
no_digits settled rest = take_while-cons is_digit 46 rest
no_digits (answered given) rest = take_while-cons is_digit 40 ((answers_text given ++ codes ")") ++ rest)

pub numeral-front : (i : ℕ) (c : Certificate) (rest : List ℕ) → i < 2 ^ 64
    → take_while is_digit (decimal i ++ (certificate_text c ++ rest)) ≡ decimal i
numeral-front i c rest l = front (decimal i) (certificate_text c ++ rest) (decimal-digits i l) (no_digits c rest)

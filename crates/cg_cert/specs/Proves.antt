-- What a certificate proves.
use Rattle.std.specs.Prelude.{ℕ, ◌≡◌, List, [], ◌∷◌, IsTrue, Some}
use Rattle.cg_form.specs.Game.{Game}
use Rattle.cg_cert.specs.Certificate.{Answers, Certificate, answered, certificate_text, no_answers, settled, with_answer}
use Rattle.cg_cert.specs.Pairs.{AtLeast, Pair, both_numbers, led, moves, pair}

abbrev mutual
  -- Both games are numbers and the first is at least the second, or each of Right's moves is answered.
  pub Proves : Certificate → Pair → Type 0
  Proves settled m = IsTrue (both_numbers m) × AtLeast m
  Proves (answered given) m = (¬ IsTrue (both_numbers m)) × ProvesAll given (moves m)

  -- each of the moves has one answer, and a certificate of the pair that it leads to
  pub ProvesAll : Answers → List Pair → Type 0
  ProvesAll no_answers [] = Unit {0}
  ProvesAll no_answers (m ∷ ms) = ⊥
  ProvesAll (with_answer a c rest) [] = ⊥
  ProvesAll (with_answer a c rest) (m ∷ ms) =
      ((k : Pair) × (led a m ≡ Some k) × Proves c k) × ProvesAll rest ms

-- the bytes are a proof of (G, H)
pub record IsProofOf (g h : Game) (bytes : List ℕ) : Type 0 where
  pub certificate : Certificate
  pub proves : Proves certificate (pair g h)
  pub spelled : bytes ≡ certificate_text certificate

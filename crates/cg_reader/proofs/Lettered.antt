-- The letters and digits in front, told by what is left behind them.
use Rattle.std.proofs.Common.{◌≡◌, ℕ, ◌-◌, true, List, ◌∷◌, length, take, Ok, refl, ap, sym, subst}
use Rattle.cg_reading.specs.Bytes.{has}
use Rattle.cg_reading.specs.Readers.{most_skipped}
use Rattle.cg_reading.proofs.MostBytes.{most_is, one_and_most}
use Rattle.cg_grammar.specs.Grammar.{letter}
use Rattle.cg_grammar.specs.OperandReading.{lettered_at}
use Rattle.cg_grammar.specs.Values.{letter_or_digit}

abbrev left : List ℕ → List ℕ
left behind = most_skipped letter_or_digit 15 behind

lettered_front : (end b : ℕ) (behind : List ℕ) → has letter b ≡ true → lettered_at end (b ∷ behind) ≡ Ok (
  take (length (b ∷ behind) - length (left behind))
      (b ∷ behind),
  left behind,
)
unfolding lettered_at
lettered_front end b behind h =
    rw (h, most_is letter_or_digit 15 end behind) (ap (λ (z : List ℕ). Ok (z, left behind)) (sym (one_and_most letter_or_digit 15 b (b ∷ behind) behind refl)))

pub lettered_is : (end b : ℕ) (bytes behind rest : List ℕ) → bytes ≡ b ∷ behind → has letter b ≡ true → rest ≡ left behind → lettered_at end bytes
    ≡ Ok (take (length bytes - length rest) bytes, rest)
lettered_is end b bytes behind rest e h k =
    subst (λ (z : List ℕ). lettered_at end bytes ≡ Ok (take (length bytes - length z) bytes, z)) (sym k)
    (subst (λ (z : List ℕ). lettered_at end z ≡ Ok (take (length z - length (left behind)) z, left behind)) (sym e) (lettered_front end b behind h))

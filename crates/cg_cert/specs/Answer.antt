-- What is answered to the question for a proof that one game is at least another.
use Rattle.std.specs.Prelude.{◌≡◌, ℕ, ◌<◌, ◌≤◌, List, [], ◌++◌, codes, decimal, length, string_bytes}
use Rattle.std.specs.Prelude.{String, Option, Some, None, Result, Ok, Err, if◌then◌else◌, slice_get}
use Rattle.cg_form.specs.Game.{Game, lefts, rights}
use Rattle.cg_form.specs.Order.{le}
use Rattle.cg_cert.specs.declared.fault.CertFault.{CertFault}
use Rattle.cg_cert.specs.declared.fault.CertFault.TheVariants.{Long, Memory}
use Rattle.cg_cert.specs.Certificate.{certificate_text}
use Rattle.cg_cert.specs.First.{first_place, first_proof}
use Rattle.cg_cert.specs.Pairs.{Pair, both_numbers, pair}

-- the text of the certificate of the first answers
abbrev pub first_text : Game → Game → List ℕ
first_text g h = certificate_text (first_proof (pair g h))

-- a letter, the option's place, and the text for the option that stands there
abbrev pub option_text : List ℕ → ℕ → (Game → List ℕ) → Option Game → List ℕ
option_text letter i text None = []
option_text letter i text (Some a) = (letter ++ decimal i) ++ text a

-- the move to a Right option of the first game, and that to a Left option of the second where there is none
abbrev pub move_text : Pair → Option ℕ → Option ℕ → List ℕ
move_text m (Some i) o = option_text (codes "r") i (λ b. first_text m.second b) (slice_get (rights m.first) i)
move_text m None (Some i) = option_text (codes "l") i (λ a. first_text a m.first) (slice_get (lefts m.second) i)
move_text m None None = []

-- Right's first winning move: to a Right option of the first game that is at most the second game, else in the second to a
-- Left option of it that is at least the first game; and the proof of that
unfoldable pub right_text : Pair → List ℕ
right_text m = move_text m (first_place (λ b. le b m.second) (rights m.first))
    (first_place (λ a. le m.first a) (lefts m.second))

-- what shows that the first game isn't at least the second: a point for numbers, and else Right's first winning move
abbrev pub refusal_text : Pair → List ℕ
refusal_text m = if both_numbers m then codes "." else right_text m

-- the first word of the answer, and what follows it
abbrev pub answer_word : Game → Game → List ℕ
answer_word g h = if le h g then codes "yes " else codes "no "

abbrev pub answer_part : Game → Game → List ℕ
answer_part g h = if le h g then first_text g h else refusal_text (pair g h)

-- whether g is at least h, and why
unfoldable pub proof_answer : Game → Game → List ℕ
proof_answer g h = answer_word g h ++ answer_part g h

-- more than 65,536 bytes follow the first word, or not
abbrev pub IsLong : Game → Game → Type 0
IsLong g h = 65536 < length (answer_part g h)

abbrev pub IsShort : Game → Game → Type 0
IsShort g h = length (answer_part g h) ≤ 65536

-- the answer, or why there is none; want of memory has no cause here
abbrev pub IsProved : {A : Type 0} → Game → Game → Result (String A) CertFault → Type 0
IsProved {A} g h (Ok text) = (string_bytes text ≡ proof_answer g h) × IsShort g h
IsProved {A} g h (Err Long) = IsLong g h
IsProved {A} g h (Err Memory) = Unit {0}

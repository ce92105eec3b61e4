-- The laws of the readers of blanks, single bytes, words and digits.
use Rattle.std.proofs.Common.{◌≡◌, ◌<◌, ℕ, true, false, List, [], arith, refl}
use Rattle.std.specs.Str.Parse.{digits_value}
use Rattle.cg_reading.specs.Bytes.{Class, has, Begins}
use Rattle.cg_reading.specs.Pieces.{One, Word}
use Rattle.cg_reading.specs.Tokens.{only, blank, digit, few_digits, digits, blanks, some_blanks, gap}
use Rattle.cg_reading.specs.TokenReaders.{byte_at, some_blanks_at, gap_at, few_digits_at, digits_at, this_word_at}
use Rattle.cg_reading.proofs.Laws.{Lawful, Some_text, same_ok}
use Rattle.cg_reading.proofs.ByteRuns.{one_lawful, one_text, bytes_lawful, no_text, run_lawful, run_text}
use Rattle.cg_reading.proofs.OneWord.{word_lawful}
use Rattle.cg_reading.proofs.Rules.{then_ok, made_ok, then_text, made_text}
use Rattle.cg_reading.proofs.DigitLemmas.{few_digits_at_is}

pub byte_ok : (b : ℕ) → has (only b) b ≡ true → Lawful (One (only b)) (byte_at b) (only b) false []
unfolding byte_at
byte_ok b h = one_lawful (only b) b h

pub byte_text : (b : ℕ) → has (only b) b ≡ true → (j : ℕ) → Some_text (One (only b)) j
byte_text b h = one_text (only b) b h

pub few_digits_ok : (most : ℕ) → 0 < most → Lawful (few_digits most) (few_digits_at most) digit false digit
few_digits_ok most some = same_ok (few_digits_at most) (few_digits_at_is most some) (made_ok (digits_value 10) (run_lawful digit most some 48 refl))

pub few_digits_text : (most : ℕ) → 0 < most → (j : ℕ) → Some_text (few_digits most) j
few_digits_text most some j = made_text (digits_value 10) j (run_text digit most some 48 refl j)

pub digits_ok : Lawful digits digits_at digit false digit
digits_ok = few_digits_ok 30 (omega arith)

pub digits_text : (j : ℕ) → Some_text digits j
digits_text j = few_digits_text 30 (omega arith) j

some_blanks_ok : Lawful some_blanks some_blanks_at blank false blank
some_blanks_ok = then_ok (one_lawful blank 32 refl) (bytes_lawful blank) (no_text blank) refl

pub gap_ok : Lawful gap gap_at blank false blank
unfolding gap_at
gap_ok = made_ok (λ _. tt {0}) some_blanks_ok

pub gap_text : (j : ℕ) → Some_text gap j
gap_text j = made_text (λ _. tt {0}) j (then_text {S = blanks} j (one_text blank 32 refl j) (no_text blank))

-- a word, by what it begins with
pub this_word_ok : (word : List ℕ) (begin : Class) → Begins begin false word → Lawful (Word word (tt {0})) (this_word_at word) begin false []
unfolding this_word_at
this_word_ok word begin b = word_lawful (tt {0}) word begin b

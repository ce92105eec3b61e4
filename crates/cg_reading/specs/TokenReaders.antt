-- Reading blanks, single bytes and digits from the front of the bytes.
use Rattle.std.specs.Prelude.{ℕ, ◌+◌, ◌-◌, ltb, if◌then◌else◌, List, [], ◌∷◌, length, Ok, Err}
use Rattle.std.specs.Str.Parse.{digits_value}
use Rattle.cg_reading.specs.Readers.{Read, Reader, then_at, one_at, bytes_at, made_at, word_at, taken, skipped}
use Rattle.cg_reading.specs.Tokens.{only, blank, digit}

abbrev pub blanks_at : Reader (List ℕ)
blanks_at = bytes_at blank

abbrev pub some_blanks_at : Reader (ℕ × List ℕ)
some_blanks_at = then_at (one_at blank) blanks_at

-- this byte
unfoldable pub byte_at : ℕ → Reader ℕ
byte_at b = one_at (only b)

-- one blank or more, of which nothing is kept
unfoldable pub gap_at : Reader (Unit {0})
gap_at = made_at (λ _. tt {0}) some_blanks_at

-- this word
unfoldable pub this_word_at : List ℕ → Reader (Unit {0})
this_word_at word = word_at word (tt {0})

-- What reading gives where these are all digits in front, and this is behind them: the number that they spell in base ten. Where
-- there is none, reading stops at once, and where there are more than so many, at the first one too many.
abbrev pub number_of : ℕ → List ℕ → List ℕ → Read ℕ
number_of most [] rest = Err (length rest)
number_of most (d ∷ ds) rest =
    if ltb most (length (d ∷ ds)) then Err (length (d ∷ ds) - most + length rest)
    else Ok (digits_value 10 (d ∷ ds), rest)

-- the number of all digits in front, one to so many of them
unfoldable pub few_digits_at : ℕ → Reader ℕ
few_digits_at most end bytes = number_of most (taken digit bytes) (skipped digit bytes)

-- the number of all digits in front, one to thirty of them
abbrev pub digits_at : Reader ℕ
digits_at = few_digits_at 30

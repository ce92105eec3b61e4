-- Tokens that any line may have: blanks and digits.
use Rattle.std.specs.Prelude.{ℕ, List, [], ◌∷◌}
use Rattle.std.specs.Str.Parse.{digits_value}
use Rattle.cg_reading.specs.Bytes.{Class}
use Rattle.cg_reading.specs.Pieces.{Piece, Then, Made, One, Bytes, Run}

-- this byte alone
abbrev pub only : ℕ → Class
only b = (b, b) ∷ []

-- a blank: space, tab or CR
abbrev pub blank : Class
blank = (32, 32) ∷ (9, 9) ∷ (13, 13) ∷ []

-- a decimal digit
abbrev pub digit : Class
digit = (48, 57) ∷ []

-- B: any number of blanks
abbrev pub blanks : Piece (List ℕ)
blanks = Bytes blank

-- one blank or more
abbrev pub some_blanks : Piece (ℕ × List ℕ)
some_blanks = Then (One blank) blanks

-- B1: one blank or more, of which nothing is kept
abbrev pub gap : Piece (Unit {0})
gap = Made (λ _. tt {0}) some_blanks

-- B and the piece
abbrev pub behind_blanks : {A : Type 0} → Piece A → Piece A
behind_blanks R = Made (λ v. v.1) (Then blanks R)

-- the piece and B
abbrev pub with_blanks : {A : Type 0} → Piece A → Piece A
with_blanks R = Made (λ v. v.0) (Then R blanks)

-- one digit or more, so many at most, and the number that they spell in base ten
abbrev pub few_digits : ℕ → Piece ℕ
few_digits most = Made (digits_value 10) (Run digit most)

-- digits: one to thirty of them
abbrev pub digits : Piece ℕ
digits = few_digits 30

-- A table of words, each with a value, none of which begins another.
use Rattle.std.specs.Prelude.{ℕ, ◌==◌, Bool, true, false, ◌&&◌, not, min, map, List, [], ◌∷◌, length, Ok, Err, ◌⊎◌}
use Rattle.std.specs.Borrow.{Bor}
use Rattle.cg_reading.specs.Pieces.{Piece, Word}
use Rattle.cg_reading.specs.Readers.{Read, Reader, word_at}

-- words with their values
abbrev pub Table : Type 0 → Type 0
Table A = List (List ℕ × A)

-- the table that the code has as a slice of words with their values
abbrev pub words_of : {T : Type 0} → List (Bor (List ℕ) × T) → Table T
words_of entries = map (λ w. (w.0.now, w.1)) entries

-- whether the text begins with these bytes
abbrev pub is_front : List ℕ → List ℕ → Bool
is_front [] text = true
is_front (b ∷ bytes) [] = false
is_front (b ∷ bytes) (c ∷ text) = (b == c) && is_front bytes text

-- whether the word begins no word of the table, and none begins it
abbrev pub is_apart : {A : Type 0} → List ℕ → Table A → Bool
is_apart word [] = true
is_apart word (w ∷ ws) = (not (is_front word w.0) && not (is_front w.0 word)) && is_apart word ws

-- whether no word of the table begins another one
abbrev pub is_prefix_free : {A : Type 0} → Table A → Bool
is_prefix_free [] = true
is_prefix_free (w ∷ ws) = is_apart w.0 ws && is_prefix_free ws

-- a word of the table, with its value
abbrev pub Among : {A : Type 0} → Table A → Piece A
Among [] i a text = ⊥
Among (w ∷ ws) i a text = Word w.0 w.1 i a text ⊎ Among ws i a text

-- the first of two readings that gives a value; where both stop, the one that goes further
abbrev pub either_read : {A : Type 0} → Read A → Read A → Read A
either_read (Ok x) other = Ok x
either_read (Err m) (Ok x) = Ok x
either_read (Err m) (Err n) = Err (min m n)

-- the word of the table that comes next; where none does, reading stops behind the longest front that the bytes have of a word
abbrev pub among_at : {A : Type 0} → Table A → Reader A
among_at [] end bytes = Err (length bytes)
among_at (w ∷ ws) end bytes = either_read (word_at w.0 w.1 end bytes) (among_at ws end bytes)

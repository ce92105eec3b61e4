-- Reading pieces of a grammar from the front of the bytes.
use Rattle.std.specs.Prelude.{◌==◌, ℕ, zero, suc, ◌-◌, Bool, cond, List, [], ◌∷◌, ◌++◌, length, Result, Ok, Err}
use Rattle.cg_reading.specs.Bytes.{Class, has}

-- a value and the bytes after it, or how many bytes are left at the first that doesn't fit
abbrev pub Read : Type 0 → Type 0
Read A = Result (A × List ℕ) ℕ

-- A reader is told the column behind the line's end.
abbrev pub Reader : Type 0 → Type 0
Reader A = ℕ → List ℕ → Read A

infixl 10 ◌>>=◌
abbrev pub ◌>>=◌ : {A B : Type 0} → Result A ℕ → (A → Result B ℕ) → Result B ℕ
(Ok x) >>= f = f x
(Err e) >>= f = Err e

-- one piece and then another
abbrev pub then_at : {A B : Type 0} → Reader A → Reader B → Reader (A × B)
then_at f g end bytes = f end bytes >>= λ x. g end x.1 >>= λ y. Ok ((x.0, y.0), y.1)

-- the first piece where a byte of the set comes next, and else the second
abbrev pub or_at : {A : Type 0} → Class → Reader A → Reader A → Reader A
or_at c f g end [] = g end []
or_at c f g end (b ∷ bytes) = cond (has c b) (f end (b ∷ bytes)) (g end (b ∷ bytes))

-- pieces as long as a byte of the set comes next, so many at most
abbrev pub many_from : {A : Type 0} → Class → Reader A → ℕ → Reader (List A)
many_from c f zero end bytes = Ok ([], bytes)
many_from c f (suc turns) end [] = Ok ([], [])
many_from c f (suc turns) end (b ∷ bytes) =
    cond (has c b) (f end (b ∷ bytes) >>= λ x. many_from c f turns end x.1 >>= λ xs. Ok (x.0 ∷ xs.0, xs.1)) (Ok ([], b ∷ bytes))

abbrev pub many_at : {A : Type 0} → Class → Reader A → Reader (List A)
many_at c f end bytes = many_from c f (length bytes) end bytes

-- these, and what pieces come behind them
abbrev pub behind_these : {A : Type 0} → Class → Reader A → List A → Reader (List A)
behind_these c f front end bytes = many_at c f end bytes >>= λ x. Ok (front ++ x.0, x.1)

-- the value under a function
abbrev pub made_at : {A B : Type 0} → (A → B) → Reader A → Reader B
made_at h f end bytes = f end bytes >>= λ x. Ok (h x.0, x.1)

-- nothing, with this value
abbrev pub nothing_at : {A : Type 0} → A → Reader A
nothing_at a end bytes = Ok (a, bytes)

-- one byte of a set
abbrev pub one_at : Class → Reader ℕ
one_at c end [] = Err 0
one_at c end (b ∷ bytes) = cond (has c b) (Ok (b, bytes)) (Err (length (b ∷ bytes)))

-- the bytes of a set that come next, and what is left behind them
abbrev pub taken : Class → List ℕ → List ℕ
taken c [] = []
taken c (b ∷ bytes) = cond (has c b) (b ∷ taken c bytes) []

abbrev pub skipped : Class → List ℕ → List ℕ
skipped c [] = []
skipped c (b ∷ bytes) = cond (has c b) (skipped c bytes) (b ∷ bytes)

abbrev pub bytes_at : Class → Reader (List ℕ)
bytes_at c end bytes = Ok (taken c bytes, skipped c bytes)

-- all bytes of a set that come next, where they are so many at most
abbrev pub few_at : Class → ℕ → Reader (List ℕ)
few_at c room end [] = Ok ([], [])
few_at c zero end (b ∷ bytes) = cond (has c b) (Err (length (b ∷ bytes))) (Ok ([], b ∷ bytes))
few_at c (suc room) end (b ∷ bytes) = cond (has c b) (few_at c room end bytes >>= λ x. Ok (b ∷ x.0, x.1)) (Ok ([], b ∷ bytes))

-- the bytes of a set that come next, so many at most
abbrev pub most_at : Class → ℕ → Reader (List ℕ)
most_at c room end [] = Ok ([], [])
most_at c zero end (b ∷ bytes) = Ok ([], b ∷ bytes)
most_at c (suc room) end (b ∷ bytes) = cond (has c b) (most_at c room end bytes >>= λ x. Ok (b ∷ x.0, x.1)) (Ok ([], b ∷ bytes))

-- what is left behind them
abbrev pub most_skipped : Class → ℕ → List ℕ → List ℕ
most_skipped c zero bytes = bytes
most_skipped c (suc room) [] = []
most_skipped c (suc room) (b ∷ bytes) = cond (has c b) (most_skipped c room bytes) (b ∷ bytes)

-- at least one of them
abbrev pub run_at : Class → ℕ → Reader (List ℕ)
run_at c room end [] = Err 0
run_at c room end (b ∷ bytes) = cond (has c b) (few_at c (room - 1) end bytes >>= λ x. Ok (b ∷ x.0, x.1)) (Err (length (b ∷ bytes)))

-- this word, with this value
abbrev pub word_at : {A : Type 0} → List ℕ → A → Reader A
word_at [] v end bytes = Ok (v, bytes)
word_at (w ∷ word) v end [] = Err 0
word_at (w ∷ word) v end (b ∷ bytes) = cond (b == w) (word_at word v end bytes) (Err (length (b ∷ bytes)))

-- the piece, with the column where it starts
abbrev pub placed_at : {A : Type 0} → Reader A → Reader (ℕ × A)
placed_at f end bytes = f end bytes >>= λ x. Ok ((end - length bytes, x.0), x.1)

-- the piece, where the test holds of its value
abbrev pub such_at : {A : Type 0} → (A → Bool) → Reader A → Reader A
such_at test f end bytes = f end bytes >>= λ x. cond (test x.0) (Ok x) (Err (length x.1))

-- one piece, and then the one that its value tells
abbrev pub telling_at : {A B : Type 0} → Reader A → (A → Reader B) → Reader B
telling_at f g end bytes = f end bytes >>= λ x. g x.0 end x.1

-- the value of the whole line, or how many bytes are left at the first that doesn't fit
abbrev pub whole_of : {A : Type 0} → Read A → Result A ℕ
whole_of (Ok (a, [])) = Ok a
whole_of (Ok (a, b ∷ rest)) = Err (length (b ∷ rest))
whole_of (Err n) = Err n

abbrev pub whole_at : {A : Type 0} → Reader A → List ℕ → Result A ℕ
whole_at f line = whole_of (f (suc (length line)) line)

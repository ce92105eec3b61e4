-- Pieces of one kind and then pieces of another, where only the middle of a piece tells its kind.
use Rattle.std.specs.Prelude.{ℕ, zero, suc, cond, List, [], ◌∷◌, ◌++◌, length, Ok, ◌⊎◌}
use mathlib.Core.Logic.{inl, inr}
use Rattle.cg_reading.specs.Bytes.{Class, has}
use Rattle.cg_reading.specs.Pieces.{Piece}
use Rattle.cg_reading.specs.Readers.{Read, Reader, ◌>>=◌}

-- a piece of either kind
abbrev pub Either : {A B : Type 0} → Piece A → Piece B → Piece (A ⊎ B)
Either R S i (inl a) text = R i a text
Either R S i (inr b) text = S i b text

-- one function at the first kind, and another at the second
abbrev pub by_kind : {A B C : Type 0} → (A → C) → (B → C) → A ⊎ B → C
by_kind f g (inl a) = f a
by_kind f g (inr b) = g b

abbrev pub one_first : {A B : Type 0} → A → Read (List A × List B) → Read (List A × List B)
one_first a read = read >>= λ y. Ok ((a ∷ y.0.0, y.0.1), y.1)

abbrev pub one_second : {A B : Type 0} → B → Read (List B) → Read (List A × List B)
one_second b read = read >>= λ y. Ok (([], b ∷ y.0), y.1)

-- Pieces of either kind as long as a byte of the set comes next, so many at most, until one is of the second kind;
-- and then what else comes of the second kind.
abbrev pub turns_from : {A B : Type 0} → Class → Reader (A ⊎ B) → Reader (List B) → ℕ → Reader (List A × List B)
turns_from c f g zero end bytes = Ok (([], []), bytes)
turns_from c f g (suc turns) end [] = Ok (([], []), [])
turns_from c f g (suc turns) end (b ∷ bytes) =
    cond (has c b) (f end (b ∷ bytes) >>= λ x. by_kind (λ a. one_first a (turns_from c f g turns end x.1)) (λ s. one_second s (g end x.1)) x.0)
    (Ok (([], []), b ∷ bytes))

abbrev pub turns_at : {A B : Type 0} → Class → Reader (A ⊎ B) → Reader (List B) → Reader (List A × List B)
turns_at c f g end bytes = turns_from c f g (length bytes) end bytes

-- these of the first kind, and what comes behind them
abbrev pub turns_behind : {A B : Type 0} → Class → Reader (A ⊎ B) → Reader (List B) → List A → Reader (List A × List B)
turns_behind c f g front end bytes = turns_at c f g end bytes >>= λ x. Ok ((front ++ x.0.0, x.0.1), x.1)

-- these of the first kind, this of the second, and what else comes of the second
abbrev pub seconds_behind : {A B : Type 0} → Reader (List B) → List A → B → Reader (List A × List B)
seconds_behind g front b end bytes = g end bytes >>= λ z. Ok ((front, b ∷ z.0), z.1)

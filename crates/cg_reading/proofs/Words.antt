-- How a word is read, one byte after the other.
use Rattle.std.proofs.Common.{◌≡◌, ℕ, suc, ◌<◌, List, ◌∷◌, length, get_or, drop, Err, ap, ◌∙◌, drop-cons}
use Rattle.std.proofs.lemmas.List.{nil_from_length}
use Rattle.cg_reading.specs.Readers.{word_at}

-- reading stops at the end of the bytes where they end after i bytes of the word
pub word_ends : (end : ℕ) (word bytes : List ℕ) (i : ℕ) → i < length word → length bytes ≡ 0 → word_at (drop i word) (tt {0}) end bytes ≡ Err 0
word_ends end word bytes i below ended =
    ap (λ (x : List ℕ). word_at x (tt {0}) end bytes) (drop-cons word i 0 below) ∙ ap (word_at (get_or word i 0 ∷ drop (suc i) word) (tt {0}) end) (nil_from_length bytes ended)

-- The words of a table: the counter, the key words and the value words, and a word that changes.
use Rattle.std.proofs.Common.{◌≡◌, ◌≢◌, ℕ, zero, suc, ◌+◌, ◌<◌, ◌≤◌, List, [], ◌∷◌, length, set, replicate}
use Rattle.std.proofs.Common.{refl, sym, ap, ◌∙◌, arith, get_or-set_same, get_or-set_other, lt-ltb, le-ltb}
use Rattle.std.specs.Prelude.{slice_index, if◌then◌else◌, nat_lt}
use mathlib.Core.Logic.{dite}
use native.Mathlib.Decide.{dec_lt}
use Rattle.cg_cells.specs.Table.{key_at, value_at}
use Rattle.cg_cells.proofs.Claims.{zeros}

pub word_again : (l : List ℕ) (i : ℕ) → set l i (slice_index l i) ≡ l
word_again [] i = refl
word_again (x ∷ xs) zero = refl
word_again (x ∷ xs) (suc i) = ap (λ ys. x ∷ ys) (word_again xs i)

within : (i size x : ℕ) → i < size → (if nat_lt i size then x else 0) ≡ x
within i size x h = ap (λ b. if b then x else 0) (lt-ltb i size h)

beyond : (i size x : ℕ) → ¬ (i < size) → (if nat_lt i size then x else 0) ≡ 0
beyond i size x h = ap (λ b. if b then x else 0) (le-ltb i size (omega arith))

module _ (size : ℕ) (words : List ℕ) where
  pub key_in : (i : ℕ) → i < size → key_at size words i ≡ slice_index words (1 + i)
  key_in i h = within i size _ h

  pub value_in : (i : ℕ) → i < size → value_at size words i ≡ slice_index words (1 + size + i)
  value_in i h = within i size _ h

  pub key_past : (i : ℕ) → ¬ (i < size) → key_at size words i ≡ 0
  key_past i h = beyond i size _ h

  pub value_past : (i : ℕ) → ¬ (i < size) → value_at size words i ≡ 0
  value_past i h = beyond i size _ h

  -- a cell with a key is one of the table's
  pub key_inside : (i : ℕ) → key_at size words i ≢ 0 → i < size
  key_inside i has = dite (dec_lt i size) (λ lt. lt) (λ ge. absurd (has (beyond i size _ ge)))

  pub key_set : (i k : ℕ) → i < size → 1 + size ≤ length words → key_at size (set words (1 + i) k) i ≡ k
  key_set i k h long = within i size _ h ∙ get_or-set_same words (1 + i) k 0 (omega arith)

  pub value_set : (i k : ℕ) → i < size → 1 + size + size ≤ length words → value_at size (set words (1 + size + i) k) i ≡ k
  value_set i k h long = within i size _ h ∙ get_or-set_same words (1 + size + i) k 0 (omega arith)

  -- another word changes
  pub key_else : (w k i : ℕ) → (i < size → 1 + i ≢ w) → key_at size (set words w k) i ≡ key_at size words i
  key_else w k i n = dite (dec_lt i size)
      (λ lt. ap (λ x. if nat_lt i size then x else 0) (get_or-set_other words w (1 + i) k 0 (n lt)))
      (λ ge. beyond i size _ ge ∙ sym (beyond i size _ ge))

  pub value_else : (w k i : ℕ) → (i < size → 1 + size + i ≢ w) → value_at size (set words w k) i ≡ value_at size words i
  value_else w k i n = dite (dec_lt i size)
      (λ lt. ap (λ x. if nat_lt i size then x else 0) (get_or-set_other words w (1 + size + i) k 0 (n lt)))
      (λ ge. beyond i size _ ge ∙ sym (beyond i size _ ge))

  pub keys_else : (w k : ℕ) → ((i : ℕ) → i < size → 1 + i ≢ w) → key_at size (set words w k) ≡ key_at size words
  keys_else w k n = λ x i. key_else w k i (n i) x

  pub values_else : (w k : ℕ) → ((i : ℕ) → i < size → 1 + size + i ≢ w) → value_at size (set words w k) ≡ value_at size words
  values_else w k n = λ x i. value_else w k i (n i) x

  pub count_else : (w k : ℕ) → 1 ≤ w → slice_index (set words w k) 0 ≡ slice_index words 0
  count_else w k h = get_or-set_other words w 0 k 0 (λ e. absurd (omega arith))

-- words that are all 0
pub no_keys : (size n i : ℕ) → key_at size (replicate n 0) i ≡ 0
no_keys size n i = dite (dec_lt i size) (λ lt. key_in size (replicate n 0) i lt ∙ zeros n (1 + i)) (λ ge. beyond i size _ ge)

pub no_values : (size n i : ℕ) → value_at size (replicate n 0) i ≡ 0
no_values size n i = dite (dec_lt i size) (λ lt. value_in size (replicate n 0) i lt ∙ zeros n (1 + size + i)) (λ ge. beyond i size _ ge)

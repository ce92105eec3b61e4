-- The words of a shared table, taken out, as a store in plain memory.
use Rattle.std.proofs.Common.{◌≡◌, ℕ, suc, ◌+◌, ◌<◌, ◌≤◌, List, [], ◌∷◌, ◌++◌, length, sym, ap, ◌∙◌, subst, arith}
use Rattle.std.specs.Prelude.{slice_index}
use Rattle.std.specs.FinMap as map
use Rattle.std.proofs.lemmas.List.{get_or_past}
use Rattle.std.proofs.lemmas.Grind.{same_number_lists}
use mathlib.Core.Logic.{dite}
use native.Mathlib.Decide.{dec_lt}
use Rattle.cg_cells.specs.Meaning.{Meaning, Has, Grows, IsLawful, Stands, Sound}
use Rattle.cg_cells.specs.Words.{Words, IsStore, things_of, marked, filled}
use Rattle.cg_cells.specs.Views.{Sizes, ViewOf, cells_of, knows}
use Rattle.cg_cells.specs.Table.{Whole, IsLive, key_at, value_at}
use Rattle.cg_cells.proofs.Saturates.{stands_known}
use Rattle.cg_cells.proofs.Plains.{marked_has}
use Rattle.cg_cells.proofs.Rows.{key_in, value_in, key_past, value_past}
use Rattle.cg_cells.proofs.Fitting.{paid, knows_stands}

behind : (x : ℕ) (xs : List ℕ) (i k : ℕ) → k ≡ suc i → slice_index (x ∷ xs) k ≡ slice_index xs i
behind x xs i k is = ap (slice_index (x ∷ xs)) is

-- a list is one list behind another where the words of both stand in it
two_parts : (xs ys all : List ℕ) → length all ≡ length xs + length ys
    → ((i : ℕ) → i < length xs → slice_index xs i ≡ slice_index all i)
    → ((i n : ℕ) → i < length ys → n ≡ length xs + i → slice_index ys i ≡ slice_index all n) → all ≡ xs ++ ys
two_parts [] ys all long first second =
    same_number_lists all ys (omega (arith, long)) (λ i lt. sym (second i i (omega (arith, long, lt)) (omega arith)))
two_parts (x ∷ xs) ys [] long first second = absurd (omega arith)
two_parts (x ∷ xs) ys (y ∷ all) long first second =
    let tail : all ≡ xs ++ ys =
    two_parts xs ys all (omega arith) (λ i lt. first (suc i) (omega arith)) (λ i n lt is. second i (suc n) lt (omega arith)) in
    let head : y ≡ x = sym (first 0 (omega arith)) in
    λ k. head k ∷ tail k

module _ {X : Type 0} (m : Meaning X) (L : IsLawful m) (z : Sizes) (words : List ℕ) (views : List (ViewOf X)) (W : Whole m z words views) (j : ℕ) (v : ViewOf X) (at : IsLive views j v)
    (keys values : List ℕ) (long_keys : length keys ≡ cells_of z) (long_values : length values ≡ cells_of z)
    (keys_are : (i : ℕ) → i < cells_of z → slice_index keys i ≡ slice_index words (1 + i))
    (values_are : (i : ℕ) → i < cells_of z → slice_index values i ≡ slice_index words (1 + cells_of z + i)) where
  abbrev store : Words
  store = record { keys = keys; values = values; spare = v.spare }

  key_is : (i : ℕ) → key_at (cells_of z) words i ≡ slice_index keys i
  key_is i = dite (dec_lt i (cells_of z))
      (λ lt. key_in (cells_of z) words i lt ∙ sym (keys_are i lt))
      (λ ge. key_past (cells_of z) words i ge ∙ sym (get_or_past keys i 0 (omega arith)))

  value_is : (i : ℕ) → value_at (cells_of z) words i ≡ slice_index values i
  value_is i = dite (dec_lt i (cells_of z))
      (λ lt. value_in (cells_of z) words i lt ∙ sym (values_are i lt))
      (λ ge. value_past (cells_of z) words i ge ∙ sym (get_or_past values i 0 (omega arith)))

  same_keys : key_at (cells_of z) words ≡ slice_index keys
  same_keys = λ x i. key_is i x

  same_values : value_at (cells_of z) words ≡ slice_index values
  same_values = λ x i. value_is i x

  -- the words are those of a store with the spare of any pass
  pub finished : IsStore m (record { keys = keys; values = values; spare = v.spare })
  finished = record {
    same_length = long_values ∙ sym long_keys;
    size = let c = W.allowed.cells in (omega arith, omega arith);
    sound = subst (λ k. Sound m k (slice_index values)) same_keys (subst (λ h. Sound m (key_at (cells_of z) words) h) same_values W.cells.sound);
    enough = subst (λ n. filled (slice_index keys) n + v.spare ≤ n) (sym long_keys)
        (subst (λ k. filled k (cells_of z) + v.spare ≤ cells_of z) same_keys (paid m L z words views W j v at));
  }

  -- which knows what the pass knew, and has noted what it had
  pub finished_knows : Grows (knows v) (map.get (things_of m keys))
  finished_knows i t e = stands_known m L store i t (subst (λ k. Stands m k i t) same_keys (knows_stands m L z words views W j v at i t e))

  pub finished_noted : (i : ℕ) → Has v.noted i → Has (marked 0 values) i
  finished_noted i h = (marked_has values i).1 (λ e. (W.each j v at).noted i h (value_is i ∙ e))

  -- the table's words are the counter and these
  pub finished_words : (count : ℕ) × (words ≡ count ∷ keys ++ values)
  finished_words = parts words W.long keys_are values_are
    where
      parts : (all : List ℕ) → length all ≡ 1 + cells_of z + cells_of z
          → ((i : ℕ) → i < cells_of z → slice_index keys i ≡ slice_index all (1 + i))
          → ((i : ℕ) → i < cells_of z → slice_index values i ≡ slice_index all (1 + cells_of z + i))
          → (count : ℕ) × (all ≡ count ∷ keys ++ values)
      parts [] long first second = absurd (omega arith)
      parts (x ∷ all) long first second = (
        x,
        ap (λ l. x ∷ l) (two_parts keys values all (omega arith)
            (λ i lt. first i (omega arith) ∙ behind x all i (1 + i) (omega arith))
            (λ i n lt is. second i (omega arith) ∙ behind x all n (1 + cells_of z + i) (omega arith))),
      )

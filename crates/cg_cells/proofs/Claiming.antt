-- What a claim does to a store in plain memory: w is what its fields have before it, and v what a caller sees.
use Rattle.std.proofs.Common.{◌≡◌, ◌≢◌, ℕ, ◌+◌, ◌-◌, ◌<◌, ◌≤◌, List, Some, IsSome, length, set, length-set}
use Rattle.std.proofs.Common.{get_or-set_same, get_or-set_other, refl, sym, ap, ◌∙◌, subst, inr, arith}
use Rattle.std.specs.Prelude.{slice_index}
use Rattle.std.specs.FinMap as map
use mathlib.Core.Logic.{dite}
use native.Mathlib.Decide.{ℕ_discrete}
use Rattle.cg_cells.specs.Meaning.{Has, Meaning, IsLawful}
use Rattle.cg_cells.specs.Store.{Spends}
use Rattle.cg_cells.specs.Words.{Words, things_of, state_of, marked, IsFirstEmpty, IsCellFor}
use Rattle.cg_cells.specs.Index.{IsEnd, IsIndex, IsKept}
use Rattle.cg_cells.proofs.Claims.{filled-new}
use Rattle.cg_cells.proofs.Indexes.{absent, indexed}
use Rattle.cg_cells.proofs.Notes.{some_is}
use Rattle.cg_cells.proofs.Plains.{nowhere, plain_found, plain_room, plain_sound, plain_new, plain_grows}

-- A claim of a key that spells a thing, where a store has the words w, which a caller sees as v
pub record IsClaim {X : Type 0} (m : Meaning X) (w v : Words) (index : List ℕ) (next key word : ℕ) : Type 0 where
  pub same : w ≡ v
  pub kept : IsKept m w index next
  pub is : word ≡ key
  pub is_key : key ≢ 0
  pub some : 1 ≤ v.spare
  pub spells : IsSome (m.spells key (map.get (things_of m v.keys)))

-- The search for the key ended at an empty slot, and this is the first empty cell
pub record IsNew {X : Type 0} (m : Meaning X) (keys slots firsts : List ℕ) (word slot cell : ℕ) : Type 0 where
  pub ended : IsEnd (length slots) (slice_index keys) (slice_index slots) (m.home word (length slots)) word slot
  pub inside : slot < length slots
  pub first : IsFirstEmpty firsts cell

module _ {X : Type 0} (m : Meaning X) (L : IsLawful m) (w v : Words) (index : List ℕ) (next key word : ℕ) (C : IsClaim m w v index next key word) where
  thing : X
  thing = (some_is _ C.spells).0

  under : m.spells key (map.get (things_of m v.keys)) ≡ Some thing
  unfolding thing
  under = (some_is _ C.spells).1

  within : m.spells word (map.get (things_of m w.keys)) ≡ Some thing
  within = subst (λ k. m.spells k (map.get (things_of m w.keys)) ≡ Some thing) (sym C.is) (subst (λ x. m.spells key (map.get (things_of m x.keys)) ≡ Some thing) (sym C.same) under)

  is_word : word ≢ 0
  is_word z = C.is_key (sym C.is ∙ z)

  some_in : 1 ≤ w.spare
  some_in = let s = C.some in let e = ap (λ x. x.spare) C.same in omega arith

  -- a cell with the key
  pub found_stands : (cell : ℕ) → slice_index w.keys cell ≡ word → map.get (things_of m w.keys) cell ≡ m.spells key (map.get (things_of m v.keys))
  found_stands cell e = plain_found m L w C.kept.store word thing is_word within cell e ∙ sym under

  -- some cell has no key
  pub not_full : (keys : List ℕ) → keys ≡ w.keys → ¬ ((i : ℕ) → i < length keys → slice_index keys i ≢ 0)
  not_full keys e full = plain_room m L w C.kept.store word thing is_word within some_in (subst (λ l. (i : ℕ) → i < length l → slice_index l i ≢ 0) e full)

  module _ (keys slots firsts : List ℕ) (keys_is : keys ≡ w.keys) (slots_is : slots ≡ index) (firsts_is : firsts ≡ w.keys) (slot cell : ℕ)
      (N : IsNew m keys slots firsts word slot cell) where
    end_in : IsEnd (length w.keys) (slice_index w.keys) (slice_index index) (m.home word (length w.keys)) word slot
    end_in =
        subst (λ n. IsEnd n (slice_index w.keys) (slice_index index) (m.home word n) word slot) C.kept.same_length
        (subst (λ l. IsEnd (length l) (slice_index w.keys) (slice_index l) (m.home word (length l)) word slot) slots_is
        (subst (λ l. IsEnd (length slots) (slice_index l) (slice_index slots) (m.home word (length slots)) word slot) keys_is N.ended))

    first_in : IsFirstEmpty w.keys cell
    first_in = subst (λ l. IsFirstEmpty l cell) firsts_is N.first

    slot_in : slot < length w.keys
    slot_in = let s = N.inside in let e = ap length slots_is in let f = C.kept.same_length in omega arith

    nowhere_in : (i : ℕ) → slice_index w.keys i ≢ word
    nowhere_in = nowhere w.keys word is_word (absent m (length w.keys) (length w.keys) word slot (slice_index w.keys) (slice_index index) C.kept.indexed end_in is_word)

    abbrev after : Words
    after = record { keys = set w.keys cell word; values = w.values; spare = w.spare - 1 }

    abbrev keys' : ℕ → ℕ
    keys' = slice_index (set w.keys cell word)

    abbrev slots' : ℕ → ℕ
    slots' = slice_index (set index slot (cell + 1))

    here : keys' cell ≡ word
    here = get_or-set_same w.keys cell word 0 first_in.inside

    others : (i : ℕ) → i ≢ cell → keys' i ≡ slice_index w.keys i
    others i far = get_or-set_other w.keys cell i word 0 far

    indexed_after : IsIndex m (length w.keys) keys' slots' (length w.keys)
    indexed_after =
        let one = filled-new (slice_index w.keys) keys' cell (length w.keys) first_in.inside first_in.empty (λ e. is_word (sym here ∙ e)) others in
        indexed m (length w.keys) (length w.keys) word slot (slice_index w.keys) (slice_index index) C.kept.indexed end_in is_word (length w.keys) cell keys' slots' slot_in here others
        (get_or-set_same index slot (cell + 1) 0 (let f = C.kept.same_length in let s = slot_in in omega arith))
        (λ s far. get_or-set_other index slot s (cell + 1) 0 far)
        first_in.inside (omega arith) (λ i lt far. lt) (omega arith)

    pub kept_after : IsKept m after (set index slot (cell + 1)) (cell + 1)
    kept_after = record {
      store = plain_sound m L w C.kept.store word thing is_word within cell first_in.inside first_in.empty nowhere_in some_in;
      same_length = length-set index slot (cell + 1) ∙ C.kept.same_length ∙ sym (length-set w.keys cell word);
      indexed = subst (λ n. IsIndex m n keys' slots' n) (sym (length-set w.keys cell word)) indexed_after;
      full = λ i lt. dite (ℕ_discrete i cell)
          (λ at e. is_word (sym here ∙ ap keys' (sym at) ∙ e))
          (λ far e. first_in.first i (omega arith) (sym (others i far) ∙ e));
    }

    pub stands_after : map.get (things_of m after.keys) cell ≡ m.spells key (map.get (things_of m v.keys))
    stands_after = plain_new m L w C.kept.store word thing is_word within cell first_in.inside first_in.empty nowhere_in ∙ sym under

    pub spends_after : Spends 1 (state_of m v) (state_of m after)
    spends_after = record {
      known = λ i u k. plain_grows m L w C.kept.store word thing is_word within cell first_in.inside first_in.empty nowhere_in i u (subst (λ x. map.get (things_of m x.keys) i ≡ Some u) (sym C.same) k);
      noted = λ x k. subst (λ l. Has (marked 0 l) x) (ap (λ z. z.values) (sym C.same)) k;
      spare = let e = ap (λ z. z.spare) C.same in let s = some_in in omega arith;
      rest = refl;
    }

    pub new_cell : IsCellFor v.keys key cell
    new_cell = subst (λ x. IsCellFor x.keys key cell) C.same (inr (subst (λ k. (i : ℕ) → slice_index w.keys i ≢ k) C.is nowhere_in, first_in))

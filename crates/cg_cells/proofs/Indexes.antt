-- Searches in the index of a store, and a cell that is put into it.
use Rattle.std.proofs.Common.{◌≡◌, ◌≢◌, ℕ, suc, ◌+◌, ◌-◌, ◌<◌, ◌≤◌, List, length, set, get_or-set_same}
use Rattle.std.proofs.Common.{get_or-set_other, replicate, refl, sym, ap, ◌∙◌, subst, arith}
use Rattle.std.specs.Prelude.{slice_index}
use Rattle.std.proofs.lemmas.List.{length-replicate}
use Rattle.std.proofs.lemmas.Bool.Decides.{nat_tests}
use mathlib.Core.Logic.{dite}
use native.Mathlib.Decide.{ℕ_discrete, dec_lt, dec_le}
use Rattle.cg_cells.specs.Meaning.{Meaning}
use Rattle.cg_cells.specs.Words.{filled}
use Rattle.cg_cells.specs.Index.{place, IsReached, IsEnd, IsIndex}
use Rattle.cg_cells.proofs.Claims.{one_if-some, filled-new, filled-all, filled-most, zeros, none_filled}

place-near : (size home n : ℕ) → home + n < size → place size home n ≡ home + n
place-near size home n h = grind (arith, nat_tests)

place-far : (size home n : ℕ) → size ≤ home + n → place size home n ≡ home + n - size
place-far size home n h = grind (arith, nat_tests)

pub place_inside : (size home n : ℕ) → home < size → n < size → place size home n < size
place_inside size home n a b = dite (dec_lt (home + n) size)
    (λ near. let e = place-near size home n near in omega arith)
    (λ far. let e = place-far size home n (omega arith) in omega arith)

-- the slots from a home on, going round, are all the slots
pub all_round : (size home : ℕ) (slots : ℕ → ℕ) → home < size → ((k : ℕ) → k < size → slots (place size home k) ≢ 0) → (s : ℕ) → s < size → slots s ≢ 0
all_round size home slots low all s h = dite (dec_le home s)
    (λ after.
    let e : place size home (s - home) ≡ s = let p = place-near size home (s - home) (omega arith) in omega arith in
    subst (λ z. slots z ≢ 0) e (all (s - home) (omega arith)))
    (λ before.
    let e : place size home (s + size - home) ≡ s = let p = place-far size home (s + size - home) (omega arith) in omega arith in
    subst (λ z. slots z ≢ 0) e (all (s + size - home) (omega arith)))

-- where a slot is free, a search doesn't go all the way round
pub ends : (size home : ℕ) (slots : ℕ → ℕ) → home < size → filled slots size < size → ¬ ((k : ℕ) → k < size → slots (place size home k) ≢ 0)
ends size home slots low room all = let f = filled-all slots size (all_round size home slots low all) in absurd (omega arith)

module _ {X : Type 0} (m : Meaning X) (size cells key slot : ℕ) (keys slots : ℕ → ℕ) (I : IsIndex m size keys slots cells) (E : IsEnd size keys slots (m.home key size) key slot) (is_key : key ≢ 0) where
  end_empty : slots (place size (m.home key size) E.steps) ≡ 0
  end_empty = ap slots (sym E.here) ∙ E.empty

  -- where the search for a key ends at an empty slot, no cell of the index has the key
  pub absent : (i : ℕ) → i < cells → keys i ≢ key
  absent i lt is =
      let R = subst (λ k. IsReached size slots (m.home k size) i) is (I.reached i lt (λ z. is_key (sym is ∙ z))) in
      dite (dec_lt R.steps E.steps)
      (λ before. (E.between R.steps before).1 (ap keys (let a = R.here in let b : slots (place size (m.home key size) R.steps) - 1 ≡ i = omega arith in b) ∙ is))
      (λ not_before. dite (ℕ_discrete R.steps E.steps)
      (λ same. let a = R.here in let b = subst (λ n. slots (place size (m.home key size) n) ≡ 0) (sym same) end_empty in absurd (omega arith))
      (λ other. R.between E.steps (omega arith) end_empty))

  module _ (cells' c : ℕ) (keys' slots' : ℕ → ℕ) (inside : slot < size) (here : keys' c ≡ key) (others : (i : ℕ) → i ≢ c → keys' i ≡ keys i)
      (put : slots' slot ≡ c + 1) (rest : (s : ℕ) → s ≢ slot → slots' s ≡ slots s) (in_cells : c < cells') (more : cells ≤ cells')
      (old : (i : ℕ) → i < cells' → i ≢ c → i < cells) (one_more : filled keys cells + 1 ≤ filled keys' cells') where
    still : (s : ℕ) → slots s ≢ 0 → slots' s ≡ slots s
    still s has = rest s (λ is. has (ap slots is ∙ E.empty))

    still_full : (s : ℕ) → slots s ≢ 0 → slots' s ≢ 0
    still_full s has e = has (sym (still s has) ∙ e)

    new_reached : IsReached size slots' (m.home key size) c
    new_reached = record { steps = E.steps; within = E.within; here = ap slots' (sym E.here) ∙ put; between = λ k h. still_full _ (E.between k h).0 }

    old_reached : (i home : ℕ) → IsReached size slots home i → IsReached size slots' home i
    old_reached i home R = record {
      steps = R.steps;
      within = R.within;
      here = still _ (λ z. let a = R.here in absurd (omega arith)) ∙ R.here;
      between = λ k h. still_full _ (R.between k h);
    }

    -- the cell with the key, put into that slot
    pub indexed : IsIndex m size keys' slots' cells'
    indexed = record {
      inside = λ s. dite (ℕ_discrete s slot)
          (λ is. let a = ap slots' is ∙ put in omega arith)
          (λ far. let a = rest s far in let b = I.inside s in omega arith);
      reached = λ i lt has. dite (ℕ_discrete i c)
          (λ is. subst (λ z. IsReached size slots' (m.home (keys' z) size) z) (sym is) (subst (λ k. IsReached size slots' (m.home k size) c) (sym here) new_reached))
          (λ far.
          let e = others i far in
          subst (λ k. IsReached size slots' (m.home k size) i) (sym e) (old_reached i _ (I.reached i (old i lt far) (λ z. has (e ∙ z)))));
      few = let a = filled-new slots slots' slot size inside E.empty (λ z. absurd (omega arith)) rest in let b = I.few in omega arith;
    }

-- a cell with a key, put into the slot where the search for the key ends
pub index_put : {X : Type 0} (m : Meaning X) (size cell key slot : ℕ) (keys : ℕ → ℕ) (slots : List ℕ) → IsIndex m size keys (slice_index slots) cell → IsEnd size keys (slice_index slots) (m.home key size) key slot
    → key ≢ 0 → keys cell ≡ key → slot < size → length slots ≡ size → IsIndex m size keys (slice_index (set slots slot (cell + 1))) (cell + 1)
index_put m size cell key slot keys slots I E is_key here inside long =
    let one = one_if-some (keys cell) (λ z. is_key (sym here ∙ z)) in
    let after : suc cell ≡ cell + 1 = omega arith in
    subst (λ n. IsIndex m size keys (slice_index (set slots slot (cell + 1))) n) after
    (indexed m size cell key slot keys (slice_index slots) I E is_key (suc cell) cell keys (slice_index (set slots slot (cell + 1))) inside here (λ i far. refl)
    (get_or-set_same slots slot (cell + 1) 0 (omega arith)) (λ s far. get_or-set_other slots slot s (cell + 1) 0 far) (omega arith) (omega arith) (λ i lt far. omega arith) (omega arith))

-- empty slots, and no cell
pub index_none : {X : Type 0} (m : Meaning X) (size : ℕ) (keys : ℕ → ℕ) → (length (replicate {A = ℕ} size 0) ≡ size) × IsIndex m size keys (slice_index (replicate size 0)) 0
index_none m size keys = (
  length-replicate size 0,
  record {
    inside = λ s. let a = zeros size s in omega arith;
    reached = λ i lt has. absurd (omega arith);
    few = let f = none_filled (slice_index (replicate size 0)) size (zeros size) in omega arith;
  },
)

-- there is a free slot for a cell that isn't yet in the index
pub has_room : {X : Type 0} (m : Meaning X) (size cells : ℕ) (keys slots : ℕ → ℕ) → cells < size → IsIndex m size keys slots cells → filled slots size < size
has_room m size cells keys slots lt I = let a = I.few in let b = filled-most keys cells in omega arith

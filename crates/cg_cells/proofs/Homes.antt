-- Keys that stand at their homes or after them: the search for a key, and a key put where its search ends.
use Rattle.std.proofs.Common.{◌≡◌, ◌≢◌, ℕ, ◌<◌, sym, ap, ◌∙◌, subst, arith}
use mathlib.Core.Logic.{dite}
use native.Mathlib.Decide.{ℕ_discrete, dec_lt}
use Rattle.cg_cells.specs.Meaning.{Meaning}
use Rattle.cg_cells.specs.Index.{place}
use Rattle.cg_cells.specs.Words.{filled}
use Rattle.cg_cells.specs.Table.{IsPlaced, HasPassed}
use Rattle.cg_cells.proofs.Indexes.{ends}

-- where a cell is empty, a search that met full cells alone hasn't gone all the way round
pub not_round : (size home : ℕ) (keys : ℕ → ℕ) → home < size → filled keys size < size → (n : ℕ) → ((i : ℕ) → i < n → keys (place size home i) ≢ 0) → n < size
not_round size home keys low room n full = dite (dec_lt n size) (λ lt. lt) (λ ge. absurd (ends size home keys low room (λ k h. full k (omega arith))))

module _ {X : Type 0} (m : Meaning X) (size : ℕ) (keys : ℕ → ℕ) (placed : (i : ℕ) → keys i ≢ 0 → IsPlaced size keys (m.home (keys i) size) i)
    (key steps : ℕ) (is_key : key ≢ 0) (empty : keys (place size (m.home key size) steps) ≡ 0) (passed : HasPassed m keys size key steps) where
  -- where the search for a key comes to an empty cell, no cell has the key
  pub is_absent : (i : ℕ) → keys i ≢ key
  is_absent i is =
      let R = subst (λ k. IsPlaced size keys (m.home k size) i) is (placed i (λ z. is_key (sym is ∙ z))) in
      dite (dec_lt R.steps steps)
      (λ before. (passed R.steps before).1 (sym (ap keys R.here) ∙ is))
      (λ not_before. dite (ℕ_discrete R.steps steps)
      (λ same. is_key (sym is ∙ ap keys R.here ∙ ap (λ n. keys (place size (m.home key size) n)) same ∙ empty))
      (λ other. R.between steps (omega arith) empty))

  module _ (keys' : ℕ → ℕ) (low : steps < size) (here : keys' (place size (m.home key size) steps) ≡ key) (others : (i : ℕ) → i ≢ place size (m.home key size) steps → keys' i ≡ keys i) where
    still : (i : ℕ) → keys i ≢ 0 → keys' i ≢ 0
    still i has e = has (sym (others i (λ is. has (ap keys is ∙ empty))) ∙ e)

    -- the key, put there
    pub placed_new : (i : ℕ) → keys' i ≢ 0 → IsPlaced size keys' (m.home (keys' i) size) i
    placed_new i has = dite (ℕ_discrete i (place size (m.home key size) steps))
        (λ is. subst (λ k. IsPlaced size keys' (m.home k size) i) (sym (ap keys' is ∙ here))
        (record { steps = steps; within = low; here = is; between = λ k h. still _ (passed k h).0 }))
        (λ far.
        let R = placed i (λ e. has (others i far ∙ e)) in
        subst (λ k. IsPlaced size keys' (m.home k size) i) (sym (others i far))
        (record { steps = R.steps; within = R.within; here = R.here; between = λ k h. still _ (R.between k h) }))

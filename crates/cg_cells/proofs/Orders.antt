-- The order of claims: where the cells with a key are the first ones, a new key comes behind them.
use Rattle.std.proofs.Common.{◌≡◌, ◌≢◌, ℕ, zero, suc, ◌+◌, ◌<◌, List, [], ◌∷◌, set, get_or-set_same, get_or-set_other, refl, sym, ap, ◌∙◌, ⊎_elim, arith}
use Rattle.std.specs.Prelude.{slice_index}
use mathlib.Core.Logic.{dite}
use native.Mathlib.Decide.{ℕ_discrete, dec_lt}
use Rattle.cg_cells.specs.Words.{AreFirst, IsFirstEmpty, IsCellFor, empty_words}
use Rattle.cg_cells.proofs.Claims.{zeros}

pub none_first : (size : ℕ) → AreFirst (empty_words size).keys 0
none_first size = record { full = λ i lt. absurd (omega arith); empty = λ i h. zeros size i }

pub set_there : (keys : List ℕ) (id key : ℕ) → slice_index keys id ≡ key → set keys id key ≡ keys
set_there [] id key e = refl
set_there (k ∷ keys) zero key e = ap (λ x. x ∷ keys) (sym e)
set_there (k ∷ keys) (suc id) key e = ap (λ l. k ∷ l) (set_there keys id key e)

pub found_first : (keys : List ℕ) (n key id : ℕ) → AreFirst keys n → key ≢ 0 → slice_index keys id ≡ key → id < n
found_first keys n key id A is_key e = dite (dec_lt id n) (λ lt. lt) (λ ge. absurd (is_key (sym e ∙ A.empty id (omega arith))))

pub new_first : (keys : List ℕ) (n key id : ℕ) → AreFirst keys n → key ≢ 0 → ((i : ℕ) → slice_index keys i ≢ key) → IsCellFor keys key id → (id ≡ n) × AreFirst (set keys id key) (n + 1)
new_first keys n key id A is_key absent cell = ⊎_elim (λ there. absurd (absent id there)) (λ r. (place r.1, row r.1 (place r.1))) cell
  where
    place : IsFirstEmpty keys id → id ≡ n
    place F = dite (dec_lt id n)
        (λ lt. absurd (A.full id lt F.empty))
        (λ ge. dite (dec_lt n id) (λ lt. absurd (F.first n lt (A.empty n (omega arith)))) (λ le. omega arith))

    row : IsFirstEmpty keys id → id ≡ n → AreFirst (set keys id key) (n + 1)
    row F is = record {
      full = λ i lt. dite (ℕ_discrete i id)
          (λ at e. is_key (sym (get_or-set_same keys id key 0 F.inside) ∙ ap (slice_index (set keys id key)) (sym at) ∙ e))
          (λ far e. A.full i (omega arith) (sym (get_or-set_other keys id i key 0 far) ∙ e));
      empty = λ i h. get_or-set_other keys id i key 0 (λ e. absurd (omega arith)) ∙ A.empty i (omega arith);
    }

-- The first line of a text.
use Rattle.std.proofs.Common.{◌≡◌, ◌≢◌, ℕ, zero, suc, ◌+◌, ◌<◌, List, [], ◌∷◌, length, get_or, take, drop, refl, ap, sym, ◌∙◌, arith}
use Rattle.std.proofs.lemmas.Bool.{ne_eqb}
use Rattle.cg_syntax.specs.SessionLines.{lines_of, onto_first}

-- a byte other than LF goes onto the first line
other : (b : ℕ) (xs : List ℕ) → b ≢ 10 → lines_of (b ∷ xs) ≡ onto_first b (lines_of xs)
other b xs h = rw (ne_eqb b 10 h) refl

pub lines_cut : (xs : List ℕ) (n : ℕ) → n < length xs → ((k : ℕ) → k < n → get_or xs k 0 ≢ 10) → get_or xs n 0 ≡ 10 → lines_of xs ≡ take n xs ∷ lines_of
    (drop (n + 1) xs)
lines_cut [] n lt before at = absurd (omega arith)
lines_cut (b ∷ xs) zero lt before at = rw (at) refl
lines_cut (b ∷ xs) (suc n) lt before at =
    let rest : lines_of xs ≡ take n xs ∷ lines_of (drop (n + 1) xs) = lines_cut xs n (omega arith) (λ k h. before (suc k) (omega arith)) at in
    let cut : drop (suc n + 1) (b ∷ xs) ≡ drop (n + 1) xs = ap (λ (k : ℕ). drop k (b ∷ xs)) (let e : suc n + 1 ≡ suc (n + 1) = omega arith in e) in
    other b xs (before zero (omega arith)) ∙ ap (onto_first b) rest ∙ ap (λ ys. (b ∷ take n xs) ∷ lines_of ys) (sym cut)

pub lines_last : (xs : List ℕ) → 0 < length xs → ((k : ℕ) → k < length xs → get_or xs k 0 ≢ 10) → lines_of xs ≡ xs ∷ []
lines_last [] lt before = absurd (omega arith)
lines_last (b ∷ []) lt before = other b [] (before zero (omega arith))
lines_last (b ∷ c ∷ xs) lt before =
    other b (c ∷ xs) (before zero (omega arith)) ∙ ap (onto_first b) (lines_last (c ∷ xs) (omega arith) (λ k h. before (suc k) (omega arith)))

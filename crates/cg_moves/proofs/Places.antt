-- Members of lists by their places.
use Rattle.std.proofs.Common.{◌≡◌, refl, ℕ, zero, suc, ◌+◌, ◌<◌, inl, inr, List, [], ◌∷◌, ◌++◌, length, take, drop, get_or, ap, sym, ◌∙◌, arith}
use Rattle.cg_moves.specs.Rules.{In}

module _ {X : Type 0} where
  pub in_read : (xs : List X) (i : ℕ) (x : X) → i < length xs → x ≡ get_or xs i x → In x xs
  in_read [] i x l e = absurd (omega arith)
  in_read (y ∷ xs) zero x l e = inl e
  in_read (y ∷ xs) (suc i) x l e = inr (in_read xs i x (omega arith) e)

  -- the list at the place of one of its members
  pub split_read : (xs : List X) (i : ℕ) (x : X) → i < length xs → x ≡ get_or xs i x → xs ≡ take i xs ++ (x ∷ drop (suc i) xs)
  split_read [] i x l e = absurd (omega arith)
  split_read (y ∷ xs) zero x l e = ap (λ z. z ∷ xs) (sym e)
  split_read (y ∷ xs) (suc i) x l e = ap (λ z. y ∷ z) (split_read xs i x (omega arith) e)

  pub take_next : (xs : List X) (i : ℕ) (x : X) → i < length xs → x ≡ get_or xs i x → take (i + 1) xs ≡ take i xs ++ (x ∷ [])
  take_next xs i x l e = go xs i l e ∙ refl
    where
      go : (ys : List X) (k : ℕ) → k < length ys → x ≡ get_or ys k x → take (k + 1) ys ≡ take k ys ++ (x ∷ [])
      go [] k l e = absurd (omega arith)
      go (y ∷ ys) zero l e = ap (λ z. z ∷ []) (sym e)
      go (y ∷ ys) (suc k) l e = let s : suc k + 1 ≡ suc (k + 1) = omega arith in
          ap (λ n. take n (y ∷ ys)) s ∙ ap (λ z. y ∷ z) (go ys k (omega arith) e)

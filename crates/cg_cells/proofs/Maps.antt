-- The first entry of a list of pairs, and a pair put before it.
use Rattle.std.proofs.Common.{◌≡◌, ◌≢◌, ℕ, List, ◌∷◌, false, cond, Option, Some, None, Ordering, Less, Equal, Greater, nat_cmp, is_eq, refl, sym, ap}
use Rattle.std.specs.FinMap as map
use Rattle.std.specs.Cmp.{nat_cmp_is, ranked}
use Rattle.cg_cells.specs.Words.{entry}

is_equal : (q : ℕ) → Equal ≡ nat_cmp q q
is_equal q = nat_cmp_is q q Equal refl

not_equal : (q k : ℕ) (r : Ordering) → r ≡ nat_cmp q k → q ≢ k → is_eq r ≡ false
not_equal q k Less e n = refl
not_equal q k Equal e n = absurd (n (ranked q k Equal e))
not_equal q k Greater e n = refl

module _ {X : Type 0} where
  abbrev pub at : List (ℕ × X) → ℕ → Option X
  at k i = map.find nat_cmp i k

  pub first_here : (k : List (ℕ × X)) (i : ℕ) (t : X) → at ((i, t) ∷ k) i ≡ Some t
  first_here k i t = ap (λ r. cond (is_eq r) (Some t) (at k i)) (sym (is_equal i))

  pub first_else : (k : List (ℕ × X)) (i j : ℕ) (t : X) → j ≢ i → at ((i, t) ∷ k) j ≡ at k j
  first_else k i j t n = ap (λ b. cond b (Some t) (at k j)) (not_equal j i (nat_cmp j i) refl n)

  pub entry_else : (i n : ℕ) (o : Option X) (es : List (ℕ × X)) → i ≢ n → at (entry n o es) i ≡ at es i
  entry_else i n None es far = refl
  entry_else i n (Some t) es far = first_else es n i t far

  pub entry_here : (n : ℕ) (o : Option X) (es : List (ℕ × X)) → at es n ≡ None → at (entry n o es) n ≡ o
  entry_here n None es none = none
  entry_here n (Some t) es none = first_here es n t

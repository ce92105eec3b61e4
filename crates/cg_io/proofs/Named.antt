-- What the test whether a number stands in a list tells.
use Rattle.std.proofs.Common.{◌≡◌, ℕ, Bool, true, false, List, sym, ◌∙◌, ap}
use Rattle.std.specs.Prelude.{Contains, nat_eq, slice_index_or}
use Rattle.std.specs.List.{list_any}
use Rattle.std.proofs.lemmas.Bool.{eqb-true, eq-eqb}
use Rattle.std.proofs.lemmas.List.Folds.{Any-from_list_any, list_any_at}

-- the test answered yes
pub Contains-from_test : (xs ys : List ℕ) (n m : ℕ) (answer : Bool) → ys ≡ xs → m ≡ n
    → answer ≡ list_any (λ y. nat_eq y m) ys → answer ≡ true → Contains xs n
Contains-from_test xs ys n m answer same_list same_number test found_it =
    let found : list_any (λ y. nat_eq y n) xs ≡ true = rw (← same_list, ← same_number) (sym test ∙ found_it) in
    let (k, x, within, at_k, equal) = Any-from_list_any (λ y. nat_eq y n) xs found in
    let is : x ≡ n = eqb-true x n equal in
    (k, within, ap (λ (d : ℕ). slice_index_or xs k d) (sym is) ∙ at_k ∙ is)

-- the test answered no
pub not_Contains-from_test : (xs ys : List ℕ) (n m : ℕ) (answer : Bool) → ys ≡ xs → m ≡ n
    → answer ≡ list_any (λ y. nat_eq y m) ys → answer ≡ false → Contains xs n → ⊥
not_Contains-from_test xs ys n m answer same_list same_number test missed (k, within, is) =
    let found : list_any (λ y. nat_eq y n) xs ≡ true = list_any_at (λ y. nat_eq y n) xs k n within (eq-eqb _ n is) in
    let not_found : list_any (λ y. nat_eq y n) xs ≡ false = rw (← same_list, ← same_number) (sym test ∙ missed) in
    cc

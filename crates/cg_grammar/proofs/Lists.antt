-- A first piece and those behind it.
use Rattle.std.proofs.Common.{◌≡◌, ℕ, List, ◌∷◌, Ok, Err, refl}
use Rattle.cg_reading.specs.Readers.{Read, Reader, ◌>>=◌, many_at, made_at}
use Rattle.cg_grammar.specs.Found.{Found}
use Rattle.cg_reading.specs.Tokens.{only}
use Rattle.cg_grammar.specs.Grammar.{bar}
use Rattle.cg_grammar.specs.Reading.{items_at, item_list_at, next_item_at, row_at, row_list_at, some_rows_at}

abbrev firsts : {A : Type 0} → A → Read (List A) → Read (A × List A)
firsts a y = y >>= λ w. Ok ((a, w.0), w.1)

abbrev pushed : {A : Type 0} → A → Read (List A) → Read (List A)
pushed a y = y >>= λ x. Ok (a ∷ x.0, x.1)

abbrev as_list : {A : Type 0} → Read (A × List A) → Read (List A)
as_list x = x >>= λ v. Ok (v.0.0 ∷ v.0.1, v.1)

last_list : {A : Type 0} (a : A) (y : Read (List A)) → as_list (firsts a y) ≡ pushed a y
last_list a (Ok v) = refl
last_list a (Err n) = refl

first_list : {A : Type 0} (k : List ℕ → Read (List A)) (x : Read A) → as_list (x >>= λ v. firsts v.0 (k v.1)) ≡ (x >>= λ v. pushed v.0 (k v.1))
first_list k (Ok v) = last_list v.0 (k v.1)
first_list k (Err n) = refl

module _ (expr : Reader Found) where
  pub item_list_is : (end : ℕ) (bytes : List ℕ) → items_at expr end bytes ≡ item_list_at expr end bytes
  unfolding items_at item_list_at
  item_list_is end bytes = first_list (many_at (only 44) (next_item_at expr) end) (expr end bytes)

  pub row_list_is : (end : ℕ) (bytes : List ℕ) → made_at (λ v. v.0 ∷ v.1) (some_rows_at expr) end bytes ≡ row_list_at expr end bytes
  unfolding row_list_at
  row_list_is end bytes = first_list (many_at bar (row_at expr) end) (row_at expr end bytes)

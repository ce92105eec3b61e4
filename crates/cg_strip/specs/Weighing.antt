-- What the cells of a row weigh, and which rules lower that.
use Rattle.std.specs.Prelude.{ℕ, zero, suc, ◌+◌, ◌-◌, ◌*◌, ◌≡◌, ◌<◌, ◌≤◌, ◌==◌, ◌&&◌, Bool, true, cond}
use Rattle.std.specs.Prelude.{nat_lt, nat_le, List, [], ◌∷◌, ◌++◌, length, Option, Some, None, All}
use Rattle.cg_strip.specs.Placing.{IsPlacedAt}
use Rattle.cg_strip.specs.Rulebook.{Rulebook}
use Rattle.cg_strip.specs.declared.weight.Weight.{Weight}
use Rattle.cg_strip.specs.declared.rule.Rule.{Rule}

-- what a symbol weighs in a cell with so many cells to its left and so many to its right; nothing if it has no weight
abbrev pub symbol_weight : List Weight → ℕ → ℕ → ℕ → ℕ
symbol_weight [] c left right = 0
symbol_weight (w ∷ weights) c left right = cond (w.symbol == c) (w.base + w.left * left + w.right * right) (symbol_weight weights c left right)

-- the sum of the weights of neighbouring cells, with so many cells to their left and so many to their right
abbrev pub cells_weight : List Weight → ℕ → List ℕ → ℕ → ℕ
cells_weight weights left [] right = 0
cells_weight weights left (c ∷ cells) right = symbol_weight weights c left (length cells + right) + cells_weight weights (suc left) cells right

-- the sum of the weights of a row
abbrev pub row_weight : List Weight → List ℕ → ℕ
row_weight weights row = cells_weight weights 0 row 0

-- At this cell of a row of so many cells the rule lowers the sum of the weights, whatever stands elsewhere.
abbrev pub LowersAt : List Weight → ℕ → Rule → ℕ → Type 0
LowersAt weights size r i = (row after : List ℕ) → length row ≡ size → IsPlacedAt r i row after → row_weight weights after < row_weight weights row

-- the rule lowers it at each cell where its pattern fits into the row
abbrev pub Lowers : List Weight → ℕ → Rule → Type 0
Lowers weights size r = (i : ℕ) → i + length r.pattern ≤ size → LowersAt weights size r i

-- The k-th rule, counted from 1, is the first that doesn't lower it, at some cell where its pattern fits into the row.
pub record IsFirstRising (book : Rulebook) (size k : ℕ) : Type 0 where
  pub before : List Rule
  pub behind : List Rule
  pub rule : Rule
  pub split : book.rules ≡ before ++ rule ∷ behind
  pub number : k ≡ suc (length before)
  pub sound : All (Lowers book.weights size) before
  pub cell : ℕ
  pub fits : cell + length rule.pattern ≤ size
  pub rising : ¬ LowersAt book.weights size rule cell

-- ---- the test

-- whether the replacement weighs less than the pattern, with so many cells to their left and so many to their right
abbrev pub is_lighter : List Weight → Rule → ℕ → ℕ → Bool
is_lighter weights r left right = nat_lt (cells_weight weights left r.replacement right) (cells_weight weights left r.pattern right)

-- the same at this cell and all to its right
abbrev pub lowers_from : List Weight → Rule → ℕ → ℕ → Bool
lowers_from weights r left zero = is_lighter weights r left 0
lowers_from weights r left (suc right) = is_lighter weights r left (suc right) && lowers_from weights r (suc left) right

-- whether the rule lowers the sum in a row of so many cells
abbrev pub does_lower : List Weight → ℕ → Rule → Bool
does_lower weights size r = cond (nat_le (length r.pattern) size) (lowers_from weights r 0 (size - length r.pattern)) true

abbrev pub do_all_lower : List Weight → ℕ → List Rule → Bool
do_all_lower weights size [] = true
do_all_lower weights size (r ∷ rules) = does_lower weights size r && do_all_lower weights size rules

-- the number of the first rule behind so many others that doesn't lower the sum
unfoldable pub first_rising : List Weight → ℕ → ℕ → List Rule → Option ℕ
first_rising weights size others [] = None
first_rising weights size others (r ∷ rules) = cond (does_lower weights size r) (first_rising weights size (suc others) rules) (Some (suc others))

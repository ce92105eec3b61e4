-- The values of heaps, one after another.
use Rattle.std.proofs.Common.{◌≡◌, refl, ap, ◌∙◌, ℕ, suc, ◌+◌, ◌≤◌, inl, inr, arith, List, [], ◌∷◌, ◌++◌, length}
use Rattle.cg_dyadic.proofs.Integers.{le_or_gt}
use Rattle.cg_form.specs.Game.{Game, node}
use Rattle.cg_form.specs.Order.{Equal}
use Rattle.cg_form.proofs.Among.{lefts-node, rights-node}
use Rattle.cg_nimbers.specs.Nimbers.{nimber_form}
use Rattle.cg_octal.specs.Found.{Adds}
use Rattle.cg_octal.specs.Heaps.{AreValues, heap, heap_options}
use Rattle.cg_octal.specs.Mex.{IsLeastMissing}
use Rattle.cg_octal.proofs.HeapRule.{heap-options}
use Rattle.cg_octal.proofs.Nimbers.{least_missing-equal, same_lists}

-- ---- the next value

-- the least number that no option has
pub next_value-equal : (bound n : ℕ) (digits start found list : List ℕ) → start ≡ [] → list ≡ found
    → Adds bound (heap_options (heap digits) digits n) start found → (k : ℕ) → IsLeastMissing list k
    → Equal (heap digits n) (nimber_form k)
next_value-equal bound n digits start found list s t a k least =
    let os : List Game = heap_options (heap digits) digits n in
    let whole : list ≡ a.added = t ∙ a.put ∙ ap (λ z. z ++ a.added) s in
    rw (heap-options digits n) (least_missing-equal (node os os) a.added k (same_lists (node os os) os (lefts-node os os) (rights-node os os))
    (rw (lefts-node os os) a.are_nimbers) (rw whole at least))

-- it is at most a bound that all numbers are below
pub next_value-within : (bound : ℕ) (games : List Game) (start found list : List ℕ) → start ≡ [] → list ≡ found
    → Adds bound games start found → (k : ℕ) → IsLeastMissing list k → k ≤ bound
next_value-within bound games start found list s t a k least = elim (le_or_gt k bound) [
  | inl l ↦ l
  | inr g ↦
      let l = a.below bound (rw (t ∙ a.put ∙ ap (λ z. z ++ a.added) s) at (least.least bound g)) in
      absurd (omega arith)
]

-- ---- the list of values

-- the values of the heaps of fewer than n tokens
pub record Made (digits ks : List ℕ) (n : ℕ) : Type 0 where
  pub values : AreValues digits ks
  pub count : length ks ≡ n

-- Items that were made once, on their own.
use Rattle.std.proofs.Common.{◌≡◌, ℕ, ◌+◌, ◌-◌, ◌≤◌, arith, ap, List, ◌∷◌}
use Rattle.cg_canon.specs.Items.{AllPass, Item, Passes, item_cost, made, outside, too_many, total}
use Rattle.cg_canon.proofs.ItemLaws.{total-append}

-- an item that passes does so at any total that is within the share
passes_at : (item : Item) (m n c share : ℕ) → Passes item m c → (m ≤ c → n ≤ share) → Passes item n share
passes_at (made g extra) m n c share p f = (p.0, p.1, f p.2)
passes_at outside m n c share p f = absurd p
passes_at too_many m n c share p f = absurd p

-- items that pass do so on their own
pub pass_alone : (share before after : ℕ) (items : List Item) → AllPass share before items after
    → AllPass (after - before) 0 items (after - before)
pass_alone share before after items h =
    let k = h.spent in
    let c : after - before ≡ total items = omega arith in
    record {
      spent = omega arith;
      each = λ front item back e.
          let t : total items ≡ total front + (item_cost item + total back) =
          omega (arith, ap total e, total-append front (item ∷ back)) in
          passes_at item (before + total front + item_cost item) (0 + total front + item_cost item) share (after - before)
          (h.each front item back e) (λ l. omega arith);
    }

-- What a computation makes, at what cost, and which of its items is refused first.
use Rattle.std.specs.Prelude.{◌≡◌, ℕ, ◌+◌, ◌<◌, ◌≤◌, List, [], ◌∷◌, ◌++◌}
use Rattle.cg_form.specs.Depth.{depth_of}
use Rattle.cg_form.specs.Game.{Game}
use Rattle.cg_nodes.specs.Games.{IsInRange}
use Rattle.cg_arena.specs.Costs.{cost_of}
use Rattle.cg_canon.specs.declared.fault.ValueFault.{ValueFault}
use Rattle.cg_canon.specs.declared.fault.ValueFault.TheVariants.{Depth, Full, Memory, Positions, Range}

-- an item: a form that is made, at a cost of so much more than its own; a number out of range; a list that is too long
pub data Item : Type 0 where
  made : Game → ℕ → Item
  outside : Item
  too_many : Item

abbrev pub item_cost : Item → ℕ
item_cost (made g extra) = cost_of g + extra
item_cost outside = 0
item_cost too_many = 0

-- what the items cost together
abbrev pub total : List Item → ℕ
total [] = 0
total (item ∷ items) = item_cost item + total items

-- the item is made where the total cost with it is so much: it is a form in range, no deeper than 512, and the total is
-- within the share
abbrev pub Passes : Item → ℕ → ℕ → Type 0
Passes (made g extra) sum share = IsInRange g × (depth_of g ≤ 512) × (sum ≤ share)
Passes outside sum share = ⊥
Passes too_many sum share = ⊥

-- why the item is refused where the total cost with it is so much
abbrev pub IsRefusal : ValueFault → Item → ℕ → ℕ → Type 0
IsRefusal Positions too_many sum share = Unit {0}
IsRefusal Range outside sum share = Unit {0}
IsRefusal Range (made g extra) sum share = ¬ IsInRange g
IsRefusal (Depth d) (made g extra) sum share = IsInRange g × (d ≡ depth_of g) × (512 < d)
IsRefusal (Full n) (made g extra) sum share = IsInRange g × (depth_of g ≤ 512) × (n ≡ sum) × (share < n)
IsRefusal _ _ sum share = ⊥

-- all items are made, in order, where so much was spent before and so much is after
pub record AllPass (share before : ℕ) (items : List Item) (after : ℕ) : Type 0 where
  pub spent : after ≡ before + total items
  pub each : (front : List Item) (item : Item) (back : List Item) → items ≡ front ++ item ∷ back
      → Passes item (before + total front + item_cost item) share

-- the first item that isn't made is refused for this cause; so much was spent for those before it
pub record IsStopped (fault : ValueFault) (share before : ℕ) (items : List Item) (after : ℕ) : Type 0 where
  pub front : List Item
  pub item : Item
  pub back : List Item
  pub split : items ≡ front ++ item ∷ back
  pub passed : AllPass share before front after
  pub refused : IsRefusal fault item (after + item_cost item) share

-- the cause of a refusal: want of memory has none, and any other is that of the first item that isn't made
abbrev pub WasRefused : ValueFault → ℕ → ℕ → List Item → ℕ → Type 0
WasRefused Memory share before items after = Unit {0}
WasRefused Range share before items after = IsStopped Range share before items after
WasRefused (Full n) share before items after = IsStopped (Full n) share before items after
WasRefused (Depth d) share before items after = IsStopped (Depth d) share before items after
WasRefused Positions share before items after = IsStopped Positions share before items after

-- What the values stand for that the code hands on while it reads.
use Rattle.std.specs.Prelude.{◌⊎◌}
use mathlib.Core.Logic.{inl, inr}
use Rattle.cg_strip.specs.Grammar.{Items}
use Rattle.cg_strip.specs.declared.items.Item.{Item}
use Rattle.cg_strip.specs.declared.items.Item.TheVariants.{Weighs, Rewrites}
use Rattle.cg_strip.specs.declared.items.WeightItem.{WeightItem}
use Rattle.cg_strip.specs.declared.items.RuleItem.{RuleItem}
use Rattle.cg_strip.specs.declared.items.Layout.{Layout}

abbrev pub item_of : Item → WeightItem ⊎ RuleItem
item_of (Weighs w) = inl w
item_of (Rewrites r) = inr r

abbrev pub items_in : Layout → Items
items_in l = record { weights = l.weights.items; rules = l.rules.items }

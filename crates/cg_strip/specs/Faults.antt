-- How the first broken rule is found: the functions of the code are told by these what they return.
use Rattle.std.specs.Prelude.{ℕ, suc, ◌==◌, ◌||◌, Bool, not, cond, List, [], ◌∷◌, ◌++◌, length, Option, Some, None, Result, Ok, Err, ◌≡◌}
use Rattle.std.specs.Option.{option_or}
use Rattle.cg_strip.specs.Grammar.{Items}
use Rattle.cg_moves.specs.declared.fault.BoardFault.{BoardFault}
use Rattle.cg_moves.specs.declared.fault.BoardFault.TheVariants as faults
use Rattle.cg_strip.specs.Rulebook.{Rulebook, is_weighted}
use Rattle.cg_strip.specs.RuleFaults.{weights_in, book_of}
use Rattle.cg_strip.specs.declared.weight.Weight.{Weight}
use Rattle.cg_strip.specs.declared.items.WeightItem.{WeightItem}
use Rattle.cg_strip.specs.declared.items.RuleItem.{RuleItem}

-- a second weight of its symbol behind these weights, or the seventeenth
abbrev pub is_bad_weight : List Weight → WeightItem → Bool
is_bad_weight before w = (length before == 16) || is_weighted before w.weight.symbol

unfoldable pub weights_fault : List Weight → List WeightItem → Option ℕ
weights_fault before [] = None
weights_fault before (w ∷ items) = cond (is_bad_weight before w) (Some w.place) (weights_fault (before ++ w.weight ∷ []) items)

-- the place of the first symbol without a weight, where the first symbol stands at this place
unfoldable pub unweighted_fault : List Weight → ℕ → List ℕ → Option ℕ
unweighted_fault weights place [] = None
unweighted_fault weights place (s ∷ symbols) = cond (is_weighted weights s) (unweighted_fault weights (suc place) symbols) (Some place)

-- the thirty-third rule, or one of two lengths
abbrev pub is_bad_rule : ℕ → RuleItem → Bool
is_bad_rule n r = (n == 32) || not (length r.rule.pattern == length r.rule.replacement)

-- the first fault in the rule behind so many others
unfoldable pub rule_fault : List Weight → ℕ → RuleItem → Option ℕ
rule_fault weights n r = cond (is_bad_rule n r) (Some r.place) (option_or (unweighted_fault weights r.pattern_place r.rule.pattern) (unweighted_fault weights
    r.replacement_place r.rule.replacement))

unfoldable pub rules_fault : List Weight → ℕ → List RuleItem → Option ℕ
rules_fault weights n [] = None
rules_fault weights n (r ∷ items) = option_or (rule_fault weights n r) (rules_fault weights (suc n) items)

unfoldable pub fault_of : Items → Option ℕ
fault_of t = option_or (weights_fault [] t.weights) (rules_fault (weights_in t.weights) 0 t.rules)

-- the game of the items, or the place of their first fault
abbrev pub IsStripOf : Items → Option ℕ → Result Rulebook BoardFault → Type 0
IsStripOf t fault (Ok book) = (fault ≡ None) × (book ≡ book_of t)
IsStripOf t fault (Err faults.Memory) = Unit {0}
IsStripOf t fault (Err (faults.Rules p)) = fault ≡ Some p
IsStripOf t fault (Err _) = ⊥

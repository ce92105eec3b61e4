-- Why a text of the grammar is refused, and where.
use Rattle.std.specs.Prelude.{ℕ, ◌+◌, ◌^◌, ◌<◌, ◌≤◌, ◌≡◌, ◌≢◌, ◌⊎◌, true, false, List, ◌∷◌, ◌++◌, length, map, slice_index}
use Rattle.cg_reading.specs.Column.{Stops}
use Rattle.cg_moves.specs.declared.fault.BoardFault.{BoardFault}
use Rattle.cg_moves.specs.declared.fault.BoardFault.TheVariants as faults
use Rattle.cg_strip.specs.Grammar.{Items, rules_text}
use Rattle.cg_strip.specs.Rulebook.{Rulebook, is_weighted}
use Rattle.cg_strip.specs.declared.weight.Weight.{Weight}
use Rattle.cg_strip.specs.declared.rule.Rule.{Rule}
use Rattle.cg_strip.specs.declared.items.WeightItem.{WeightItem}
use Rattle.cg_strip.specs.declared.items.RuleItem.{RuleItem}

abbrev pub weights_in : List WeightItem → List Weight
weights_in items = map (λ w. w.weight) items

abbrev pub rules_in : List RuleItem → List Rule
rules_in items = map (λ r. r.rule) items

-- the k-th of these symbols, counted from 0, has no weight
pub record IsUnweighted (weights : List Weight) (symbols : List ℕ) (k : ℕ) : Type 0 where
  pub within : k < length symbols
  pub none : is_weighted weights (slice_index symbols k) ≡ false

-- the place is one at which a rule beyond the grammar is broken
pub data IsBroken (t : Items) (p : ℕ) : Type 0 where
  -- a symbol that starts a second weight of the same symbol
  second_weight : (before behind : List WeightItem) (w : WeightItem) → t.weights ≡ before ++ w ∷ behind → is_weighted (weights_in before) w.weight.symbol ≡ true
      → p ≡ w.place → IsBroken t p
  -- a symbol that starts the seventeenth weight
  seventeenth_weight : (before behind : List WeightItem) (w : WeightItem) → t.weights ≡ before ++ w ∷ behind → length before ≡ 16 → p ≡ w.place → IsBroken t p
  -- the letter that starts the thirty-third rule
  thirty_third_rule : (before behind : List RuleItem) (r : RuleItem) → t.rules ≡ before ++ r ∷ behind → length before ≡ 32 → p ≡ r.place → IsBroken t p
  -- a symbol of a pattern that has no weight
  in_pattern : (before behind : List RuleItem) (r : RuleItem) (k : ℕ) → t.rules ≡ before ++ r ∷ behind → IsUnweighted (weights_in t.weights) r.rule.pattern k →
      p ≡ r.pattern_place + k → IsBroken t p
  -- a symbol of a replacement that has no weight
  in_replacement : (before behind : List RuleItem) (r : RuleItem) (k : ℕ) → t.rules ≡ before ++ r ∷ behind → IsUnweighted (weights_in t.weights)
      r.rule.replacement k → p ≡ r.replacement_place + k → IsBroken t p
  -- the letter that starts a rule whose pattern and replacement differ in length
  uneven_rule : (before behind : List RuleItem) (r : RuleItem) → t.rules ≡ before ++ r ∷ behind → length r.rule.pattern ≢ length r.rule.replacement →
      p ≡ r.place → IsBroken t p

-- the least of these places
pub record IsFirstBroken (t : Items) (p : ℕ) : Type 0 where
  pub broken : IsBroken t p
  pub least : (q : ℕ) → IsBroken t q → p ≤ q

-- the text is in the grammar, the rules beyond it left aside
abbrev pub IsInGrammar : List ℕ → Type 0
IsInGrammar text = (t : Items) × rules_text 1 t text

abbrev pub book_of : Items → Rulebook
book_of t = record { weights = weights_in t.weights; rules = rules_in t.rules }

-- the text reads as this game
pub record IsReadAs (text : List ℕ) (book : Rulebook) : Type 0 where
  pub items : Items
  pub is : rules_text 1 items text
  pub sound : (p : ℕ) → ¬ IsBroken items p
  pub same : book ≡ book_of items

-- the place of a text that reads as no game: where it leaves the grammar, or else the first at which a rule beyond it is broken
abbrev pub IsRulesPlace : List ℕ → ℕ → Type 0
IsRulesPlace text p = Stops IsInGrammar text p ⊎ ((t : Items) × rules_text 1 t text × IsFirstBroken t p)

abbrev pub IsRefused : List ℕ → BoardFault → Type 0
IsRefused text faults.Memory = Unit {0}
IsRefused text (faults.Rules p) = IsRulesPlace text p
IsRefused text _ = ⊥

-- the places of the rule's symbols are numbers of 64 bits
pub record HasPlaces (r : RuleItem) : Type 0 where
  pub pattern : r.pattern_place + length r.rule.pattern < 2 ^ 64
  pub replacement : r.replacement_place + length r.rule.replacement < 2 ^ 64

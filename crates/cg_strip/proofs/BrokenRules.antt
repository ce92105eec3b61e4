-- The first fault in the rules of a text, and in the whole text.
use Rattle.std.proofs.Common.{◌≡◌, ◌≢◌, ℕ, suc, ◌+◌, ◌≤◌, ◌==◌, ◌||◌, ◌⊎◌, inl, inr, Bool, true, false, not, cond, List, []}
use Rattle.std.proofs.Common.{◌∷◌, ◌++◌, length, Option, Some, None, refl, ap, sym, subst, ◌∙◌, arith, eqb-true, eq-eqb}
use Rattle.std.specs.Option.{option_or}
use Rattle.std.proofs.lemmas.List.{length-map}
use Rattle.std.proofs.lemmas.Bool.{or_cases}
use Rattle.cg_strip.specs.Grammar.{Items, rules_text}
use Rattle.cg_strip.specs.Rulebook.{is_weighted}
use Rattle.cg_strip.specs.RuleFaults.{weights_in, IsBroken, second_weight, seventeenth_weight, thirty_third_rule}
use Rattle.cg_strip.specs.RuleFaults.{in_pattern, in_replacement, uneven_rule, IsFirstBroken}
use Rattle.cg_strip.specs.Faults.{is_bad_weight, weights_fault, unweighted_fault, is_bad_rule, rule_fault, rules_fault, fault_of}
use Rattle.cg_strip.specs.declared.weight.Weight.{Weight}
use Rattle.cg_strip.specs.declared.items.WeightItem.{WeightItem}
use Rattle.cg_strip.specs.declared.items.RuleItem.{RuleItem}
use Rattle.cg_strip.proofs.Places.{RuleFrom, RulesFrom, WeightsFrom, lower_rules, places_rise}
use Rattle.cg_moves.proofs.FirstPlaces.{First, first_or}
use Rattle.cg_strip.proofs.Broken.{first_if, Unweighted, first_unweighted, unweighted_within, BadWeight, first_weight}

-- a place at which this rule, behind so many others, is broken
abbrev BrokenRule : List Weight → ℕ → RuleItem → ℕ → Type 0
BrokenRule weights n r q = ((is_bad_rule n r ≡ true) × (q ≡ r.place)) ⊎ ((Unweighted weights r.pattern_place r.rule.pattern q)
    ⊎ (Unweighted weights r.replacement_place r.rule.replacement q))

first_in_rule : (weights : List Weight) (n low : ℕ) (r : RuleItem) → RuleFrom low r → First (BrokenRule weights n r) (rule_fault weights n r)
unfolding rule_fault
first_in_rule weights n low r o =
    subst (λ (a : Option ℕ). First (BrokenRule weights n r) a) (sym (either (is_bad_rule n r) (option_or pattern replacement)))
    (first_or (λ q. (is_bad_rule n r ≡ true) × (q ≡ r.place)) Symbols (cond (is_bad_rule n r) (Some r.place) None) (option_or pattern replacement) before
    (first_if (is_bad_rule n r) r.place)
    (first_or (Unweighted weights r.pattern_place r.rule.pattern) (Unweighted weights r.replacement_place r.rule.replacement) pattern replacement between
    (first_unweighted weights r.pattern_place r.rule.pattern) (first_unweighted weights r.replacement_place r.rule.replacement)))
  where
    pattern : Option ℕ
    pattern = unweighted_fault weights r.pattern_place r.rule.pattern

    replacement : Option ℕ
    replacement = unweighted_fault weights r.replacement_place r.rule.replacement

    Symbols : ℕ → Type 0
    Symbols q = (Unweighted weights r.pattern_place r.rule.pattern q) ⊎ (Unweighted weights r.replacement_place r.rule.replacement q)

    either : (t : Bool) (other : Option ℕ) → cond t (Some r.place) other ≡ option_or (cond t (Some r.place) None) other
    either true other = refl
    either false other = refl

    between : (p q : ℕ) → Unweighted weights r.pattern_place r.rule.pattern p → Unweighted weights r.replacement_place r.rule.replacement q → p ≤ q
    between p q a b = let x = unweighted_within weights r.pattern_place r.rule.pattern p a in let y = unweighted_within weights r.replacement_place
        r.rule.replacement q b in omega (arith, o.replacement, x.1, y.0)

    before : (p q : ℕ) → (is_bad_rule n r ≡ true) × (p ≡ r.place) → Symbols q → p ≤ q
    before p q a (inl b) = let x = unweighted_within weights r.pattern_place r.rule.pattern q b in omega (arith, a.1, o.pattern, x.0)
    before p q a (inr b) = let x = unweighted_within weights r.replacement_place r.rule.replacement q b in omega (arith, a.1, o.pattern, o.replacement, x.0)

rule_within : (weights : List Weight) (n low : ℕ) (r : RuleItem) → RuleFrom low r → (q : ℕ) → BrokenRule weights n r q → (low ≤ q) × (q ≤ r.replacement_place
    + length r.rule.replacement)
rule_within weights n low r o q (inl h) = (omega (arith, h.1, o.letter), omega (arith, h.1, o.pattern, o.replacement))
rule_within weights n low r o q (inr (inl h)) = let x = unweighted_within weights r.pattern_place r.rule.pattern q h in (
  omega (
    arith,
    x.0,
    o.letter,
    o.pattern,
  ),
  omega (arith, x.1, o.replacement),
)
rule_within weights n low r o q (inr (inr h)) = let x = unweighted_within weights r.replacement_place r.rule.replacement q h in (
  omega (
    arith,
    x.0,
    o.letter,
    o.pattern,
    o.replacement,
  ),
  omega (arith, x.1),
)

-- ---- all rules

-- a broken rule among these, behind so many others
abbrev BrokenAmong : List Weight → ℕ → List RuleItem → ℕ → Type 0
BrokenAmong weights n [] q = ⊥
BrokenAmong weights n (r ∷ items) q = BrokenRule weights n r q ⊎ BrokenAmong weights (suc n) items q

among_low : (weights : List Weight) (n low : ℕ) (items : List RuleItem) → RulesFrom low items → (q : ℕ) → BrokenAmong weights n items q → low ≤ q
among_low weights n low [] o q h = absurd h
among_low weights n low (r ∷ items) o q (inl h) = (rule_within weights n low r o.0 q h).0
among_low weights n low (r ∷ items) o q (inr h) = let x = among_low weights (suc n) (r.replacement_place + length r.rule.replacement) items o.1 q h in
    omega (arith, x, o.0.letter, o.0.pattern, o.0.replacement)

first_among : (weights : List Weight) (n low : ℕ) (items : List RuleItem) → RulesFrom low items → First (BrokenAmong weights n items) (rules_fault weights n
    items)
unfolding rules_fault
first_among weights n low [] o = λ q h. h
first_among weights n low (r ∷ items) o =
    first_or (BrokenRule weights n r) (BrokenAmong weights (suc n) items) (rule_fault weights n r) (rules_fault weights (suc n) items)
    (λ p q a b. let x = rule_within weights n low r o.0 p a in let y = among_low weights (suc n) (r.replacement_place + length r.rule.replacement) items o.1 q b
    in omega (arith, x.1, y))
    (first_in_rule weights n low r o.0) (first_among weights (suc n) (r.replacement_place + length r.rule.replacement) items o.1)

among_at : (weights : List Weight) (n : ℕ) (before behind : List RuleItem) (r : RuleItem) (q : ℕ) → BrokenRule weights (n + length before) r q →
    BrokenAmong weights n (before ++ r ∷ behind) q
among_at weights n [] behind r q h = inl (subst (λ (k : ℕ). BrokenRule weights k r q) (let e : n + 0 ≡ n = omega arith in e) h)
among_at weights n (b ∷ before) behind r q h = inr (among_at weights (suc n) before behind r q (subst (λ (k : ℕ). BrokenRule weights k r q) (let e : n + suc
    (length before) ≡ suc n + length before = omega arith in e) h))

among_split : (weights : List Weight) (n : ℕ) (items : List RuleItem) (q : ℕ) → BrokenAmong weights n items q → (before : List RuleItem)
    × (behind : List RuleItem) × (r : RuleItem) × (items ≡ before ++ r ∷ behind) × BrokenRule weights (n + length before) r q
among_split weights n [] q h = absurd h
among_split weights n (r ∷ items) q (inl h) = ([], items, r, refl, subst (λ (k : ℕ). BrokenRule weights k r q) (let e : n ≡ n + 0 = omega arith in e) h)
among_split weights n (r ∷ items) q (inr h) =
    let (before, behind, v, e, broken) = among_split weights (suc n) items q h in (
      r ∷ before,
      behind,
      v,
      ap (λ (z : List RuleItem). r ∷ z) e,
      subst (λ (k : ℕ). BrokenRule weights k v q) (let f : suc n + length before ≡ n + suc
          (length before) = omega arith in f) broken,
    )

-- ---- the whole text

abbrev BrokenText : Items → ℕ → Type 0
BrokenText t q = BadWeight [] t.weights q ⊎ BrokenAmong (weights_in t.weights) 0 t.rules q

weight_kinds : (before : List WeightItem) (w : WeightItem) → is_bad_weight (weights_in before) w ≡ true → (length before ≡ 16)
    ⊎ (is_weighted (weights_in before) w.weight.symbol ≡ true)
weight_kinds before w h = elim (or_cases (length (weights_in before) == 16) (is_weighted (weights_in before) w.weight.symbol) h) [
  | inl e ↦ inl (sym (length-map before (λ (w : WeightItem). w.weight)) ∙ eqb-true (length (weights_in before)) 16 e)
  | inr e ↦ inr e
]

rule_kinds : (n : ℕ) (r : RuleItem) → is_bad_rule n r ≡ true → (n ≡ 32) ⊎ (length r.rule.pattern ≢ length r.rule.replacement)
rule_kinds n r h = elim (or_cases (n == 32) (not (length r.rule.pattern == length r.rule.replacement)) h) [
  | inl e ↦ inl (eqb-true n 32 e)
  | inr e ↦ inr (λ s. let k = eq-eqb (length r.rule.pattern) (length r.rule.replacement) s in absurd (let f : false ≡ true = sym (ap not k) ∙ e in cc))
]

to_broken : (t : Items) (q : ℕ) → BrokenText t q → IsBroken t q
unfolding BadWeight Unweighted
to_broken t q (inl (before, behind, w, e, bad, at)) = elim (weight_kinds before w bad) [
  | inl n ↦ seventeenth_weight before behind w e n at
  | inr n ↦ second_weight before behind w e n at
]
to_broken t q (inr h) = by_kind (among_split (weights_in t.weights) 0 t.rules q h)
  where
    of_rule : (before behind : List RuleItem) (r : RuleItem) → t.rules ≡ before ++ r ∷ behind → BrokenRule (weights_in t.weights) (0 + length before) r q →
        IsBroken t q
    of_rule before behind r e (inl bad) = elim (rule_kinds (0 + length before) r bad.0) [
      | inl n ↦ thirty_third_rule before behind r e (omega arith) bad.1
      | inr n ↦ uneven_rule before behind r e n bad.1
    ]
    of_rule before behind r e (inr (inl (k, u, at))) = in_pattern before behind r k e u at
    of_rule before behind r e (inr (inr (k, u, at))) = in_replacement before behind r k e u at

    by_kind : (before : List RuleItem) × (behind : List RuleItem) × (r : RuleItem) × (t.rules ≡ before ++ r ∷ behind) × BrokenRule (weights_in t.weights)
        (0 + length before) r q → IsBroken t q
    by_kind (before, behind, r, e, broken) = of_rule before behind r e broken

or_left : (a b : Bool) → a ≡ true → (a || b) ≡ true
or_left true b e = refl
or_left false b e = absurd cc

or_right : (a b : Bool) → b ≡ true → (a || b) ≡ true
or_right true b e = refl
or_right false b e = e

uneven : (m n : ℕ) → m ≢ n → not (m == n) ≡ true
uneven m n h = chosen (m == n) refl
  where
    chosen : (t : Bool) → (m == n) ≡ t → not t ≡ true
    chosen true e = absurd (h (eqb-true m n e))
    chosen false e = refl

from_broken : (t : Items) (q : ℕ) → IsBroken t q → BrokenText t q
unfolding BadWeight Unweighted
from_broken t q (second_weight before behind w e h at) = inl (
  before,
  behind,
  w,
  e,
  or_right (length (weights_in before) == 16) (is_weighted (weights_in before)
      w.weight.symbol) h,
  at,
)
from_broken t q (seventeenth_weight before behind w e n at) = inl (
  before,
  behind,
  w,
  e,
  or_left (length (weights_in before) == 16)
      (is_weighted (weights_in before) w.weight.symbol) (eq-eqb (length (weights_in before)) 16 (length-map before (λ (w : WeightItem). w.weight) ∙ n)),
  at,
)
from_broken t q (thirty_third_rule before behind r e n at) = inr (subst (λ (z : List RuleItem). BrokenAmong (weights_in t.weights) 0 z q) (sym e)
    (among_at (weights_in t.weights) 0 before behind r q (inl (
      or_left (0 + length before == 32) (not (length r.rule.pattern == length r.rule.replacement))
          (eq-eqb (0 + length before) 32 (omega arith)),
      at,
    ))))
from_broken t q (in_pattern before behind r k e u at) = inr (subst (λ (z : List RuleItem). BrokenAmong (weights_in t.weights) 0 z q) (sym e)
    (among_at (weights_in t.weights) 0 before behind r q (inr (inl (k, u, at)))))
from_broken t q (in_replacement before behind r k e u at) = inr (subst (λ (z : List RuleItem). BrokenAmong (weights_in t.weights) 0 z q) (sym e)
    (among_at (weights_in t.weights) 0 before behind r q (inr (inr (k, u, at)))))
from_broken t q (uneven_rule before behind r e n at) = inr (subst (λ (z : List RuleItem). BrokenAmong (weights_in t.weights) 0 z q) (sym e)
    (among_at (weights_in t.weights) 0 before behind r q (inl (
      or_right (0 + length before == 32) (not (length r.rule.pattern == length r.rule.replacement))
          (uneven (length r.rule.pattern) (length r.rule.replacement) n),
      at,
    ))))

rules_behind : (low : ℕ) (items : List WeightItem) (rules : List RuleItem) → WeightsFrom low items rules → RulesFrom low rules
rules_behind low [] rules o = o
rules_behind low (w ∷ items) rules o = lower_rules (suc w.place) low rules (omega (arith, o.0)) (rules_behind (suc w.place) items rules o.1)

-- the rules stand behind the weights
weights_first : (low : ℕ) (t : Items) → WeightsFrom low t.weights t.rules → (p q : ℕ) → BadWeight [] t.weights p → BrokenAmong (weights_in t.weights) 0 t.rules
    q → p ≤ q
unfolding BadWeight
weights_first low t o p q (before, behind, w, e, bad, at) h = let x = among_low (weights_in t.weights) 0 (suc w.place) t.rules (from_place low before t.weights
    e o) q h in omega (arith, x, at)
  where
    from_place : (low : ℕ) (before items : List WeightItem) → items ≡ before ++ w ∷ behind → WeightsFrom low items t.rules → RulesFrom (suc w.place) t.rules
    from_place low [] items e o = rules_behind (suc w.place) behind t.rules (subst (λ (z : List WeightItem). WeightsFrom low z t.rules) e o).1
    from_place low (b ∷ before) items e o = from_place (suc b.place) before (before ++ w ∷ behind) refl (subst (λ (z : List WeightItem). WeightsFrom low z
        t.rules) e o).1

first_broken : (t : Items) (text : List ℕ) → rules_text 1 t text → First (BrokenText t) (fault_of t)
unfolding fault_of
first_broken t text is =
    let o = places_rise 1 t text is in
    first_or (BadWeight [] t.weights) (BrokenAmong (weights_in t.weights) 0 t.rules) (weights_fault [] t.weights) (rules_fault (weights_in t.weights) 0 t.rules)
    (weights_first 1 t o)
    (first_weight 1 [] t.weights t.rules o) (first_among (weights_in t.weights) 0 1 t.rules (rules_behind 1 t.weights t.rules o))

-- ---- what the fault that is found says

pub none_broken : (t : Items) (text : List ℕ) → rules_text 1 t text → fault_of t ≡ None → (q : ℕ) → IsBroken t q → ⊥
none_broken t text is e q h = (subst (λ (a : Option ℕ). First (BrokenText t) a) e (first_broken t text is)) q (from_broken t q h)

pub broken_at : (t : Items) (text : List ℕ) (p : ℕ) → rules_text 1 t text → fault_of t ≡ Some p → IsFirstBroken t p
broken_at t text p is e =
    let f = subst (λ (a : Option ℕ). First (BrokenText t) a) e (first_broken t text is) in
    record { broken = to_broken t p f.0; least = λ q h. f.1 q (from_broken t q h) }

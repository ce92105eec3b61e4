-- How the first fault is found, one item after the other.
use Rattle.std.proofs.Common.{◌≡◌, ◌≢◌, ℕ, suc, ◌+◌, ◌<◌, ◌≤◌, ◌==◌, ◌||◌, Bool, true, false, cond, List, [], ◌∷◌, ◌++◌, length}
use Rattle.std.proofs.Common.{take, drop, get_or, Option, Some, None, refl, ap, sym, ◌∙◌, arith, drop-cons, eq-eqb, ne_eqb}
use Rattle.std.specs.Option.{option_or}
use Rattle.std.specs.List.{list_any}
use Rattle.std.proofs.Math.Seq.{take-suc}
use Rattle.std.proofs.lemmas.List.{length-map, map-append, at_drop_all, length-take-le}
use Rattle.cg_strip.specs.Rulebook.{is_weighted}
use Rattle.cg_strip.specs.RuleFaults.{weights_in}
use Rattle.cg_strip.specs.Faults.{is_bad_weight, weights_fault, unweighted_fault, rule_fault, rules_fault}
use Rattle.cg_strip.specs.declared.weight.Weight.{Weight}
use Rattle.cg_strip.specs.declared.items.WeightItem.{WeightItem}
use Rattle.cg_strip.specs.declared.items.RuleItem.{RuleItem}

pub weighted_items : (items : List WeightItem) (s : ℕ) → list_any (λ item. item.weight.symbol == s) items ≡ is_weighted (weights_in items) s
weighted_items [] s = refl
weighted_items (item ∷ items) s = ap (λ (t : Bool). (item.weight.symbol == s) || t) (weighted_items items s)

-- ---- weights

pub weights_step : (items : List WeightItem) (i : ℕ) (d : WeightItem) → i < length items
    → weights_fault (weights_in (take i items)) (drop i items) ≡ cond (is_bad_weight (weights_in (take i items)) (get_or items i d))
    (Some (get_or items i d).place) (weights_fault (weights_in (take (i + 1) items)) (drop (i + 1) items))
unfolding weights_fault
weights_step items i d h =
    let up : i + 1 ≡ suc i = omega arith in
    let taken : weights_in (take (i + 1) items) ≡ weights_in (take i items) ++ (get_or items i d).weight ∷ [] =
    ap (λ (k : ℕ). weights_in (take k items)) up ∙ ap weights_in (take-suc items i d h) ∙ map-append (λ (w : WeightItem). w.weight) (take i items)
    (get_or items i d ∷ []) in
    ap (weights_fault (weights_in (take i items))) (drop-cons items i d h)
    ∙ ap (λ (z : Option ℕ). cond (is_bad_weight (weights_in (take i items)) (get_or items i d)) (Some (get_or items i d).place) z)
    (ap (λ (k : ℕ). weights_fault (weights_in (take i items) ++ (get_or items i d).weight ∷ []) (drop k items)) (sym up) ∙ ap (λ (z : List Weight).
    weights_fault z (drop (i + 1) items)) (sym taken))

pub weights_end : (front : List Weight) (items : List WeightItem) (i : ℕ) → length items ≤ i → weights_fault front (drop i items) ≡ None
unfolding weights_fault
weights_end front items i h = at_drop_all (weights_fault front) items i h

pub bad_by_count : (items : List WeightItem) (i : ℕ) (w : WeightItem) → i ≤ length items → i ≡ 16 → is_bad_weight (weights_in (take i items)) w ≡ true
bad_by_count items i w h e = ap (λ (t : Bool). t || is_weighted (weights_in (take i items)) w.weight.symbol) (eq-eqb (length (weights_in (take i items))) 16
    (length-map (take i items) (λ (w : WeightItem). w.weight) ∙ length-take-le i items h ∙ e))

or_right : (a b : Bool) → b ≡ true → (a || b) ≡ true
or_right true b e = refl
or_right false b e = e

pub bad_by_symbol : (front : List Weight) (w : WeightItem) → is_weighted front w.weight.symbol ≡ true → is_bad_weight front w ≡ true
bad_by_symbol front w e = or_right (length front == 16) (is_weighted front w.weight.symbol) e

pub not_bad : (items : List WeightItem) (i : ℕ) (w : WeightItem) → i ≤ length items → i ≢ 16 → is_weighted (weights_in (take i items)) w.weight.symbol ≡ false →
    is_bad_weight (weights_in (take i items)) w ≡ false
not_bad items i w h e f = ap (λ (t : Bool). t || is_weighted (weights_in (take i items)) w.weight.symbol) (ne_eqb (length (weights_in (take i items))) 16
    (λ k. e (sym (length-map (take i items) (λ (w : WeightItem). w.weight) ∙ length-take-le i items h) ∙ k))) ∙ f

-- ---- symbols

pub unweighted_step : (weights : List Weight) (place : ℕ) (symbols : List ℕ) (i : ℕ) → i < length symbols
    → unweighted_fault weights (place + i) (drop i symbols) ≡ cond (is_weighted weights (get_or symbols i 0)) (unweighted_fault weights (place + (i + 1))
    (drop (i + 1) symbols)) (Some (place + i))
unfolding unweighted_fault
unweighted_step weights place symbols i h =
    let up : i + 1 ≡ suc i = omega arith in
    let next : suc (place + i) ≡ place + (i + 1) = omega arith in
    ap (unweighted_fault weights (place + i)) (drop-cons symbols i 0 h)
    ∙ ap (λ (z : Option ℕ). cond (is_weighted weights (get_or symbols i 0)) z (Some (place + i)))
    (ap (λ (k : ℕ). unweighted_fault weights (suc (place + i)) (drop k symbols)) (sym up) ∙ ap (λ (k : ℕ). unweighted_fault weights k (drop (i + 1) symbols))
    next)

pub unweighted_end : (weights : List Weight) (place : ℕ) (symbols : List ℕ) (i : ℕ) → length symbols ≤ i → unweighted_fault weights place (drop i symbols)
    ≡ None
unfolding unweighted_fault
unweighted_end weights place symbols i h = at_drop_all (unweighted_fault weights place) symbols i h

-- ---- rules

pub rules_step : (weights : List Weight) (items : List RuleItem) (i : ℕ) (d : RuleItem) → i < length items
    → rules_fault weights i (drop i items) ≡ option_or (rule_fault weights i (get_or items i d)) (rules_fault weights (i + 1) (drop (i + 1) items))
unfolding rules_fault
rules_step weights items i d h =
    let up : i + 1 ≡ suc i = omega arith in
    ap (rules_fault weights i) (drop-cons items i d h) ∙ ap (λ (k : ℕ). option_or (rule_fault weights i (get_or items i d)) (rules_fault weights k
    (drop k items))) (sym up)

pub rules_end : (weights : List Weight) (items : List RuleItem) (i : ℕ) → length items ≤ i → rules_fault weights i (drop i items) ≡ None
unfolding rules_fault
rules_end weights items i h = at_drop_all (rules_fault weights i) items i h

-- ---- what the code's tests say

pub weight_found : (items : List WeightItem) (i : ℕ) (d : WeightItem) → i < length items → is_bad_weight (weights_in (take i items)) (get_or items i d) ≡ true →
    weights_fault (weights_in (take i items)) (drop i items) ≡ Some (get_or items i d).place
weight_found items i d h bad = weights_step items i d h ∙ ap (λ (t : Bool). cond t (Some (get_or items i d).place) (weights_fault
    (weights_in (take (i + 1) items)) (drop (i + 1) items))) bad

pub weight_passed : (items : List WeightItem) (i : ℕ) (d : WeightItem) → i < length items → i ≢ 16 → is_weighted (weights_in (take i items)) (get_or items i
    d).weight.symbol ≡ false → weights_fault (weights_in (take (i + 1) items)) (drop (i + 1) items) ≡ weights_fault (weights_in (take i items)) (drop i items)
weight_passed items i d h e f = sym (weights_step items i d h ∙ ap (λ (t : Bool). cond t (Some (get_or items i d).place) (weights_fault
    (weights_in (take (i + 1) items)) (drop (i + 1) items))) (not_bad items i (get_or items i d) (omega arith) e f))

pub symbol_found : (weights : List Weight) (place : ℕ) (symbols : List ℕ) (i : ℕ) → i < length symbols → is_weighted weights (get_or symbols i 0) ≡ false →
    unweighted_fault weights (place + i) (drop i symbols) ≡ Some (place + i)
symbol_found weights place symbols i h f = unweighted_step weights place symbols i h ∙ ap (λ (t : Bool). cond t (unweighted_fault weights (place + (i + 1))
    (drop (i + 1) symbols)) (Some (place + i))) f

pub symbol_passed : (weights : List Weight) (place : ℕ) (symbols : List ℕ) (i : ℕ) → i < length symbols → is_weighted weights (get_or symbols i 0) ≡ true →
    unweighted_fault weights (place + (i + 1)) (drop (i + 1) symbols) ≡ unweighted_fault weights (place + i) (drop i symbols)
symbol_passed weights place symbols i h f = sym (unweighted_step weights place symbols i h ∙ ap (λ (t : Bool). cond t (unweighted_fault weights
    (place + (i + 1)) (drop (i + 1) symbols)) (Some (place + i))) f)

pub rule_found : (weights : List Weight) (items : List RuleItem) (i : ℕ) (d : RuleItem) (p : ℕ) → i < length items → Some p ≡ rule_fault weights i
    (get_or items i d) → rules_fault weights i (drop i items) ≡ Some p
rule_found weights items i d p h f = rules_step weights items i d h ∙ ap (λ (a : Option ℕ). option_or a (rules_fault weights (i + 1) (drop (i + 1) items)))
    (sym f)

pub rule_passed : (weights : List Weight) (items : List RuleItem) (i : ℕ) (d : RuleItem) → i < length items → None ≡ rule_fault weights i (get_or items i d) →
    rules_fault weights (i + 1) (drop (i + 1) items) ≡ rules_fault weights i (drop i items)
rule_passed weights items i d h f = sym (rules_step weights items i d h ∙ ap (λ (a : Option ℕ). option_or a (rules_fault weights (i + 1) (drop (i + 1) items)))
    (sym f))

pub found_by_count : (items : List WeightItem) (i : ℕ) (d : WeightItem) → i < length items → i ≡ 16 → weights_fault (weights_in (take i items)) (drop i items)
    ≡ Some (get_or items i d).place
found_by_count items i d h e = weight_found items i d h (bad_by_count items i (get_or items i d) (omega arith) e)

pub found_by_symbol : (items : List WeightItem) (i : ℕ) (d : WeightItem) → i < length items → is_weighted (weights_in (take i items)) (get_or items i
    d).weight.symbol ≡ true → weights_fault (weights_in (take i items)) (drop i items) ≡ Some (get_or items i d).place
found_by_symbol items i d h e = weight_found items i d h (bad_by_symbol (weights_in (take i items)) (get_or items i d) e)

-- How it is tested which rules lower the sum of the weights.
use Rattle.std.proofs.Common.{◌≡◌, ℕ, suc, ◌+◌, ◌-◌, ◌<◌, ◌≤◌, ◌&&◌, Bool, true, false, cond, List}
use Rattle.std.proofs.Common.{length, drop, get_or, Some, None, ap, sym, ◌∙◌, arith, drop-cons}
use Rattle.std.proofs.lemmas.Bool.{le-leb, lt-leb}
use Rattle.std.proofs.lemmas.List.{at_drop_all}
use Rattle.cg_strip.specs.Weighing.{is_lighter, lowers_from, does_lower, first_rising}
use Rattle.cg_strip.specs.declared.weight.Weight.{Weight}
use Rattle.cg_strip.specs.declared.rule.Rule.{Rule}

cell_step : (weights : List Weight) (r : Rule) (left room : ℕ) → left < room → lowers_from weights r left (room - left) ≡ (is_lighter weights r left
    (room - left) && lowers_from weights r (left + 1) (room - (left + 1)))
cell_step weights r left room h =
    let k : room - left ≡ suc (room - (left + 1)) = omega arith in
    let n : suc left ≡ left + 1 = omega arith in
    ap (lowers_from weights r left) k ∙ ap (λ (j : ℕ). is_lighter weights r left j && lowers_from weights r (suc left) (room - (left + 1))) (sym k)
    ∙ ap (λ (j : ℕ). is_lighter weights r left (room - left) && lowers_from weights r j (room - (left + 1))) n

pub cell_passed : (weights : List Weight) (r : Rule) (left room : ℕ) → left < room → is_lighter weights r left (room - left) ≡ true → lowers_from weights r
    (left + 1) (room - (left + 1)) ≡ lowers_from weights r left (room - left)
cell_passed weights r left room h e = sym (cell_step weights r left room h ∙ ap (λ (t : Bool). t && lowers_from weights r (left + 1) (room - (left + 1))) e)

-- where the pattern fits, and where it doesn't
pub fits_lower : (weights : List Weight) (size : ℕ) (r : Rule) → length r.pattern ≤ size → does_lower weights size r ≡ lowers_from weights r 0 (size - length
    r.pattern)
fits_lower weights size r h = ap (λ (t : Bool). cond t (lowers_from weights r 0 (size - length r.pattern)) true) (le-leb (length r.pattern) size h)

pub long_lower : (weights : List Weight) (size : ℕ) (r : Rule) → size < length r.pattern → does_lower weights size r ≡ true
long_lower weights size r h = ap (λ (t : Bool). cond t (lowers_from weights r 0 (size - length r.pattern)) true) (lt-leb (length r.pattern) size h)

-- ---- rules

rule_step : (weights : List Weight) (size i : ℕ) (rules : List Rule) (d : Rule) → i < length rules → first_rising weights size i (drop i rules)
    ≡ cond (does_lower weights size (get_or rules i d)) (first_rising weights size (i + 1) (drop (i + 1) rules)) (Some (i + 1))
unfolding first_rising
rule_step weights size i rules d h =
    let up : i + 1 ≡ suc i = omega arith in
    ap (first_rising weights size i) (drop-cons rules i d h)
    ∙ ap (λ (k : ℕ). cond (does_lower weights size (get_or rules i d)) (first_rising weights size k (drop k rules)) (Some k)) (sym up)

pub rule_found : (weights : List Weight) (size i : ℕ) (rules : List Rule) (d : Rule) → i < length rules → does_lower weights size (get_or rules i d) ≡ false →
    first_rising weights size i (drop i rules) ≡ Some (i + 1)
rule_found weights size i rules d h e = rule_step weights size i rules d h ∙ ap (λ (t : Bool). cond t (first_rising weights size (i + 1) (drop (i + 1) rules))
    (Some (i + 1))) e

pub rule_passed : (weights : List Weight) (size i : ℕ) (rules : List Rule) (d : Rule) → i < length rules → does_lower weights size (get_or rules i d) ≡ true →
    first_rising weights size (i + 1) (drop (i + 1) rules) ≡ first_rising weights size i (drop i rules)
rule_passed weights size i rules d h e = sym (rule_step weights size i rules d h ∙ ap (λ (t : Bool). cond t (first_rising weights size (i + 1)
    (drop (i + 1) rules)) (Some (i + 1))) e)

pub rules_end : (weights : List Weight) (size i others : ℕ) (rules : List Rule) → length rules ≤ i → first_rising weights size others (drop i rules) ≡ None
unfolding first_rising
rules_end weights size i others rules h = at_drop_all (first_rising weights size others) rules i h

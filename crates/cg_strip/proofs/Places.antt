-- The places of the items of a text rise.
use Rattle.std.proofs.Common.{◌≡◌, ℕ, suc, ◌+◌, ◌<◌, ◌≤◌, inl, inr, List, [], ◌∷◌, length, ap, sym, subst, ◌∙◌, arith, length-append}
use Rattle.cg_reading.specs.Pieces.{Many}
use Rattle.cg_moves.specs.declared.player.Player.{Player}
use Rattle.cg_strip.specs.Grammar as s
use Rattle.cg_strip.specs.Grammar.{Items, rules_text, behind_semicolon, weight, rule}
use Rattle.cg_strip.specs.declared.items.WeightItem.{WeightItem}
use Rattle.cg_strip.specs.declared.items.RuleItem.{RuleItem}

-- the places of a rule rise, from this one on
pub record RuleFrom (low : ℕ) (r : RuleItem) : Type 0 where
  pub letter : low ≤ r.place
  pub pattern : r.place < r.pattern_place
  pub replacement : r.pattern_place + length r.rule.pattern ≤ r.replacement_place

-- the places of all these rules rise, from this one on
abbrev pub RulesFrom : ℕ → List RuleItem → Type 0
RulesFrom low [] = Unit {0}
RulesFrom low (r ∷ rules) = RuleFrom low r × RulesFrom (r.replacement_place + length r.rule.replacement) rules

-- those of these weights and of the rules behind them
abbrev pub WeightsFrom : ℕ → List WeightItem → List RuleItem → Type 0
WeightsFrom low [] rules = RulesFrom low rules
WeightsFrom low (w ∷ weights) rules = (low ≤ w.place) × WeightsFrom (suc w.place) weights rules

pub lower_rules : (low less : ℕ) (rules : List RuleItem) → less ≤ low → RulesFrom low rules → RulesFrom less rules
lower_rules low less [] h o = tt
lower_rules low less (r ∷ rules) h o = (record { letter = omega (arith, o.0.letter); pattern = o.0.pattern; replacement = o.0.replacement }, o.1)

lower_weights : (low less : ℕ) (weights : List WeightItem) (rules : List RuleItem) → less ≤ low → WeightsFrom low weights rules → WeightsFrom less weights rules
lower_weights low less [] rules h o = lower_rules low less rules h o
lower_weights low less (w ∷ weights) rules h o = (omega (arith, o.0), o.1)

-- ---- the places of an item

one_long : (i : ℕ) (p : Player) (text : List ℕ) → s.player i p text → length text ≡ 1
one_long i p text (inl is) = ap length is.is.spelled
one_long i p text (inr is) = ap length is.is.spelled

symbols_long : (i : ℕ) (symbols text : List ℕ) → s.symbols i symbols text → length text ≡ length symbols
symbols_long i symbols text is =
    let a = ap length is.is.first.spelled in
    let b = ap length is.is.second.spelled in
    omega (arith, ap length is.is.spelled, length-append is.is.before is.is.behind, ap length is.same, a, b)

weight_at : (i : ℕ) (w : WeightItem) (text : List ℕ) → weight i w text → w.place ≡ i
weight_at i w text is = ap (λ (z : WeightItem). z.place) is.same ∙ is.is.first.0

weight_long : (i : ℕ) (w : WeightItem) (text : List ℕ) → weight i w text → 0 < length text
weight_long i w text is = omega (arith, ap length is.is.spelled, length-append is.is.before is.is.behind, ap length is.is.first.1.spelled)

-- a rule from this column on, of this length
pub record RuleAt (i : ℕ) (r : RuleItem) (size : ℕ) : Type 0 where
  pub letter : r.place ≡ i
  pub pattern : r.place < r.pattern_place
  pub replacement : r.pattern_place + length r.rule.pattern ≤ r.replacement_place
  pub end : r.replacement_place + length r.rule.replacement ≡ i + size

pub rule_at : (i : ℕ) (r : RuleItem) (text : List ℕ) → rule i r text → RuleAt i r (length text)
rule_at i r text is =
    let t = is.is in
    let n = t.second in
    let m = n.second.is in
    let letter = one_long i is.made_of.0.1 t.before t.first.1 in
    let colon = ap length n.first.spelled in
    let greater = ap length m.second.first.spelled in
    let pattern = symbols_long _ _ _ m.first.1 in
    let replacement = symbols_long _ _ _ m.second.second.1 in
    let whole : length text ≡ length t.before + (length n.before + (length m.before + (length m.second.before + length m.second.behind))) =
    omega (
      arith,
      ap length t.spelled,
      length-append t.before t.behind,
      ap length n.spelled,
      length-append n.before n.behind,
      ap length m.spelled,
      length-append
          m.before m.behind,
      ap length m.second.spelled,
      length-append m.second.before m.second.behind,
    ) in
    let same = is.same ∙ ap (λ z. s.rule_item is.made_of.0 z) n.second.same in
    let place : r.place ≡ is.made_of.0.0 = ap (λ (z : RuleItem). z.place) same in
    let pattern_place : r.pattern_place ≡ n.second.made_of.0.0 = ap (λ (z : RuleItem). z.pattern_place) same in
    let replacement_place : r.replacement_place ≡ n.second.made_of.1.1.0 = ap (λ (z : RuleItem). z.replacement_place) same in
    let pattern_size : length r.rule.pattern ≡ length n.second.made_of.0.1 = ap (λ (z : RuleItem). length z.rule.pattern) same in
    let replacement_size : length r.rule.replacement ≡ length n.second.made_of.1.1.1 = ap (λ (z : RuleItem). length z.rule.replacement) same in
    record {
      letter = place ∙ t.first.0;
      pattern = omega (arith, t.first.0, m.first.0);
      replacement = omega (arith, m.first.0, m.second.second.0);
      end = omega (arith, whole, m.second.second.0);
    }

-- ---- the places of all items

rules_from : (i : ℕ) (rules : List RuleItem) (text : List ℕ) → Many (behind_semicolon rule) i rules text → RulesFrom i rules
rules_from i [] text is = tt
rules_from i (r ∷ rules) text is =
    let m = is.first.is in
    let e : r ≡ is.first.made_of.1 = is.first.same in
    let a : RuleAt (i + length m.before) r (length m.behind) = subst (λ (z : RuleItem). RuleAt (i + length m.before) z (length m.behind)) (sym e)
    (rule_at (i + length m.before) is.first.made_of.1 m.behind m.second) in
    let size : length is.before ≡ length m.before + length m.behind = ap length m.spelled ∙ length-append m.before m.behind in (
      record { letter = omega (arith, a.letter); pattern = a.pattern; replacement = a.replacement },
      subst (λ (j : ℕ). RulesFrom j rules) (let k : i + length
          is.before ≡ r.replacement_place + length r.rule.replacement = omega (arith, a.end) in k) (rules_from (i + length is.before) rules is.behind is.second),
    )

weights_from : (i : ℕ) (weights : List WeightItem) (rules : List RuleItem) (text more : List ℕ) → Many (behind_semicolon weight) i weights text →
    Many (behind_semicolon rule) (i + length text) rules more → WeightsFrom i weights rules
weights_from i [] rules text more is next = lower_rules (i + length text) i rules (omega arith) (rules_from (i + length text) rules more next)
weights_from i (w ∷ weights) rules text more is next =
    let m = is.first.is in
    let e : w ≡ is.first.made_of.1 = is.first.same in
    let at : w.place ≡ i + length m.before = ap (λ (z : WeightItem). z.place) e ∙ weight_at (i + length m.before) is.first.made_of.1 m.behind m.second in
    let some = weight_long (i + length m.before) is.first.made_of.1 m.behind m.second in
    let size : length is.before ≡ length m.before + length m.behind = ap length m.spelled ∙ length-append m.before m.behind in
    let k : i + length text ≡ (i + length is.before) + length is.behind = omega (arith, ap length is.spelled, length-append is.before is.behind) in (
      omega arith,
      lower_weights (i + length is.before) (suc w.place) weights rules (omega arith) (weights_from (i + length is.before) weights rules is.behind
          more is.second (subst (λ (j : ℕ). Many (behind_semicolon rule) j rules more) k next)),
    )

pub places_rise : (i : ℕ) (t : Items) (text : List ℕ) → rules_text i t text → WeightsFrom i t.weights t.rules
places_rise i t text is =
    let m = is.is in
    let n = m.second in
    let w = is.made_of.0 in
    let e : t ≡ s.items_of is.made_of = is.same in
    let at = weight_at i w m.before m.first in
    let some = weight_long i w m.before m.first in
    subst (λ (z : Items). WeightsFrom i z.weights z.rules) (sym e) (
      omega (arith, at),
      lower_weights (i + length m.before) (suc w.place) is.made_of.1.0 is.made_of.1.1 (omega (arith, at, some))
          (weights_from (i + length m.before) is.made_of.1.0 is.made_of.1.1 n.before n.behind n.first n.second),
    )

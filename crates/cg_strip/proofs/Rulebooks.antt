-- A text in which no rule is broken is one of a game.
use Rattle.std.proofs.Common.{◌≡◌, ◌≢◌, ℕ, zero, suc, ◌+◌, ◌^◌, ◌<◌, ◌≤◌, ◌==◌, ◌||◌, ◌&&◌, Bool, true, false, not, cond, List, [], ◌∷◌}
use Rattle.std.proofs.Common.{◌++◌, length, Option, Some, None, refl, ap, sym, subst, ◌∙◌, arith, length-append, eqb-true, ne_eqb}
use Rattle.std.specs.Option.{option_or}
use Rattle.std.specs.Prelude.{All, nat_le}
use Rattle.std.specs.List.{list_all, list_any}
use Rattle.std.proofs.lemmas.Bool.{eqb-false, le-leb, and_from}
use Rattle.std.proofs.lemmas.List.{length-map}
use Rattle.std.proofs.lemmas.List.Folds.{list_any-append}
use Rattle.cg_reading.specs.Bytes.{has}
use Rattle.cg_reading.specs.Pieces.{Many}
use Rattle.cg_moves.specs.Grid.{is_symbol, all_distinct}
use Rattle.cg_strip.specs.Grammar as s
use Rattle.cg_strip.specs.Grammar.{Items, rules_text, behind_semicolon, symbol, weight, rule}
use Rattle.cg_strip.specs.Rulebook.{is_weighted, symbols_of, IsRule, IsRulebook}
use Rattle.cg_strip.specs.RuleFaults.{weights_in, rules_in, HasPlaces, book_of}
use Rattle.cg_moves.proofs.FirstPlaces.{or_none as none_of}
use Rattle.cg_strip.specs.Faults.{is_bad_weight, weights_fault, unweighted_fault, is_bad_rule, rule_fault, rules_fault, fault_of}
use Rattle.cg_strip.proofs.Places.{rule_at}
use Rattle.cg_strip.specs.declared.weight.Weight.{Weight}
use Rattle.cg_strip.specs.declared.items.WeightItem.{WeightItem}
use Rattle.cg_strip.specs.declared.items.RuleItem.{RuleItem}

-- ---- nothing is wrong with the weights

or_false : (a b : Bool) → (a || b) ≡ false → (a ≡ false) × (b ≡ false)
or_false true b h = absurd cc
or_false false b h = (refl, h)

not_found : (t : Bool) (p : ℕ) (a : Option ℕ) → cond t (Some p) a ≡ None → (t ≡ false) × (a ≡ None)
not_found true p a e = absurd cc
not_found false p a e = (refl, e)

not_missed : (t : Bool) (p : ℕ) (a : Option ℕ) → cond t a (Some p) ≡ None → (t ≡ true) × (a ≡ None)
not_missed true p a e = (refl, e)
not_missed false p a e = absurd cc

-- no symbol of the items has one of these weights
abbrev Fresh : List Weight → List WeightItem → Type 0
Fresh front [] = Unit {0}
Fresh front (w ∷ items) = (is_weighted front w.weight.symbol ≡ false) × Fresh front items

fewer : (front more : List Weight) (items : List WeightItem) → Fresh (front ++ more) items → Fresh front items × Fresh more items
fewer front more [] h = (tt, tt)
fewer front more (w ∷ items) h =
    let p = or_false (is_weighted front w.weight.symbol) (is_weighted more w.weight.symbol) (sym (list_any-append (λ v. v.symbol == w.weight.symbol) front more)
    ∙ h.0) in
    let q = fewer front more items h.1 in
    ((p.0, q.0), (p.1, q.1))

fresh : (front : List Weight) (items : List WeightItem) → weights_fault front items ≡ None → Fresh front items
unfolding weights_fault
fresh front [] e = tt
fresh front (w ∷ items) e =
    let p = not_found (is_bad_weight front w) w.place (weights_fault (front ++ w.weight ∷ []) items) e in
    let q = or_false (length front == 16) (is_weighted front w.weight.symbol) p.0 in
    (q.1, (fewer front (w.weight ∷ []) items (fresh (front ++ w.weight ∷ []) items p.1)).0)

or_none : (a : Bool) → (a || false) ≡ false → a ≡ false
or_none true h = absurd cc
or_none false h = refl

-- a symbol that none of the others repeats
alone : (w : Weight) (items : List WeightItem) → Fresh (w ∷ []) items → list_any (λ d. d == w.symbol) (symbols_of (weights_in items)) ≡ false
alone w [] h = refl
alone w (v ∷ items) h =
    let other : (v.weight.symbol == w.symbol) ≡ false = ne_eqb v.weight.symbol w.symbol (λ e. eqb-false w.symbol v.weight.symbol
    (or_none (w.symbol == v.weight.symbol) h.0) (sym e)) in
    rw other (alone w items h.1)

distinct : (front : List Weight) (items : List WeightItem) → weights_fault front items ≡ None → all_distinct (symbols_of (weights_in items)) ≡ true
unfolding weights_fault
distinct front [] e = refl
distinct front (w ∷ items) e =
    let p = not_found (is_bad_weight front w) w.place (weights_fault (front ++ w.weight ∷ []) items) e in
    let lone = alone w.weight items (fewer front (w.weight ∷ []) items (fresh (front ++ w.weight ∷ []) items p.1)).1 in
    rw lone (distinct (front ++ w.weight ∷ []) items p.1)

few_weights : (front : List Weight) (items : List WeightItem) → length front ≤ 16 → weights_fault front items ≡ None → length front + length items ≤ 16
unfolding weights_fault
few_weights front [] h e = omega arith
few_weights front (w ∷ items) h e =
    let p = not_found (is_bad_weight front w) w.place (weights_fault (front ++ w.weight ∷ []) items) e in
    let q = or_false (length front == 16) (is_weighted front w.weight.symbol) p.0 in
    let n : length front ≢ 16 = eqb-false (length front) 16 q.0 in
    let size : length (front ++ w.weight ∷ []) ≡ length front + 1 = length-append front (w.weight ∷ []) in
    let r = few_weights (front ++ w.weight ∷ []) items (omega arith) p.1 in
    omega (arith, r)

-- ---- the symbols of weights

symbol_is : (c : ℕ) → has symbol c ≡ true → is_symbol c ≡ true
symbol_is c h = grind arith

weight_symbol : (i : ℕ) (w : WeightItem) (text : List ℕ) → weight i w text → is_symbol w.weight.symbol ≡ true
weight_symbol i w text is = symbol_is w.weight.symbol (ap (λ (z : WeightItem). has symbol z.weight.symbol) is.same ∙ is.is.first.1.within)

weight_symbols : (i : ℕ) (items : List WeightItem) (text : List ℕ) → Many (behind_semicolon weight) i items text → list_all is_symbol
    (symbols_of (weights_in items)) ≡ true
weight_symbols i [] text is = refl
weight_symbols i (w ∷ items) text is =
    let m = is.first.is in
    let one = ap (λ (z : WeightItem). is_symbol z.weight.symbol) is.first.same ∙ weight_symbol (i + length m.before) is.first.made_of.1 m.behind m.second in
    and_from (is_symbol w.weight.symbol) (list_all is_symbol (symbols_of (weights_in items))) one (weight_symbols (i + length is.before) items is.behind
    is.second)

-- ---- nothing is wrong with the rules

-- a rule of the grammar, whose places end before this one
pub record InText (end : ℕ) (r : RuleItem) : Type 0 where
  pub some : 0 < length r.rule.pattern
  pub pattern : r.pattern_place + length r.rule.pattern ≤ end
  pub replacement : r.replacement_place + length r.rule.replacement ≤ end

abbrev AllInText : ℕ → List RuleItem → Type 0
AllInText end [] = Unit {0}
AllInText end (r ∷ rules) = InText end r × AllInText end rules

some_symbols : (i : ℕ) (symbols text : List ℕ) → s.symbols i symbols text → 0 < length symbols
some_symbols i symbols text is = omega (arith, ap length is.same)

rule_in_text : (i : ℕ) (r : RuleItem) (text : List ℕ) → rule i r text → InText (i + length text) r
rule_in_text i r text is =
    let n = is.is.second.second in
    let a = rule_at i r text is in
    let same = is.same ∙ ap (λ z. s.rule_item is.made_of.0 z) n.same in
    let size : length r.rule.pattern ≡ length n.made_of.0.1 = ap (λ (z : RuleItem). length z.rule.pattern) same in
    let some = some_symbols _ _ _ n.is.first.1 in
    record { some = omega (arith, some, size); pattern = omega (arith, a.replacement, a.end); replacement = omega (arith, a.end) }

all_later : (end far : ℕ) (rules : List RuleItem) → end ≤ far → AllInText end rules → AllInText far rules
all_later end far [] h o = tt
all_later end far (r ∷ rules) h o = (
  record { some = o.0.some; pattern = omega (arith, o.0.pattern); replacement = omega (arith, o.0.replacement) },
  all_later end far rules h o.1,
)

rules_in_text : (i : ℕ) (rules : List RuleItem) (text : List ℕ) → Many (behind_semicolon rule) i rules text → AllInText (i + length text) rules
rules_in_text i [] text is = tt
rules_in_text i (r ∷ rules) text is =
    let m = is.first.is in
    let a = subst (λ (z : RuleItem). InText ((i + length m.before) + length m.behind) z) (sym is.first.same) (rule_in_text (i + length m.before)
    is.first.made_of.1 m.behind m.second) in
    let one : length is.before ≡ length m.before + length m.behind = ap length m.spelled ∙ length-append m.before m.behind in
    let all : length text ≡ length is.before + length is.behind = ap length is.spelled ∙ length-append is.before is.behind in (
      record { some = a.some; pattern = omega (arith, a.pattern); replacement = omega (arith, a.replacement) },
      all_later ((i + length is.before) + length
          is.behind) (i + length text) rules (omega arith) (rules_in_text (i + length is.before) rules is.behind is.second),
    )

text_rules : (t : Items) (text : List ℕ) → rules_text 1 t text → AllInText (1 + length text) t.rules
text_rules t text is =
    let n = is.is.second in
    let all : length text ≡ length is.is.before + (length n.before + length n.behind) = omega (
      arith,
      ap length is.is.spelled,
      length-append is.is.before
          is.is.behind,
      ap length n.spelled,
      length-append n.before n.behind,
    ) in
    subst (λ (z : Items). AllInText (1 + length text) z.rules) (sym is.same)
    (all_later (((1 + length is.is.before) + length n.before) + length n.behind) (1 + length text) is.made_of.1.1 (omega arith) (rules_in_text
    ((1 + length is.is.before) + length n.before) is.made_of.1.1 n.behind n.second))

-- the places of a text's rules are numbers of 64 bits
pub text_places : (t : Items) (text : List ℕ) → rules_text 1 t text → length text + 1 < 2 ^ 64 → All HasPlaces t.rules
text_places t text is h = each t.rules (text_rules t text is)
  where
    each : (rules : List RuleItem) → AllInText (1 + length text) rules → All HasPlaces rules
    each [] o k d below = absurd (omega arith)
    each (r ∷ rules) o zero d below = record { pattern = omega (arith, o.0.pattern); replacement = omega (arith, o.0.replacement) }
    each (r ∷ rules) o (suc k) d below = each rules o.1 k d (omega arith)

all_weighted : (weights : List Weight) (place : ℕ) (symbols : List ℕ) → unweighted_fault weights place symbols ≡ None → list_all (is_weighted weights) symbols
    ≡ true
unfolding unweighted_fault
all_weighted weights place [] e = refl
all_weighted weights place (c ∷ symbols) e =
    let p = not_missed (is_weighted weights c) place (unweighted_fault weights (suc place) symbols) e in
    and_from (is_weighted weights c) (list_all (is_weighted weights) symbols) p.0 (all_weighted weights (suc place) symbols p.1)

not_not : (t : Bool) → not t ≡ false → t ≡ true
not_not true e = refl
not_not false e = absurd cc

fine_rule : (weights : List Weight) (n end : ℕ) (r : RuleItem) → InText end r → rule_fault weights n r ≡ None → (n ≢ 32) × IsRule weights r.rule
unfolding rule_fault
fine_rule weights n end r o e =
    let p = not_found (is_bad_rule n r) r.place (option_or (unweighted_fault weights r.pattern_place r.rule.pattern) (unweighted_fault weights
    r.replacement_place r.rule.replacement)) e in
    let q = none_of (unweighted_fault weights r.pattern_place r.rule.pattern) (unweighted_fault weights r.replacement_place r.rule.replacement) p.1 in
    let b = or_false (n == 32) (not (length r.rule.pattern == length r.rule.replacement)) p.0 in (
      eqb-false n 32 b.0,
      record {
        some = o.some;
        even = eqb-true (length r.rule.pattern) (length r.rule.replacement) (not_not (length r.rule.pattern == length r.rule.replacement) b.1);
        pattern = all_weighted weights r.pattern_place r.rule.pattern q.0;
        replacement = all_weighted weights r.replacement_place r.rule.replacement q.1;
      },
    )

fine_rules : (weights : List Weight) (n end : ℕ) (rules : List RuleItem) → AllInText end rules → n ≤ 32 → rules_fault weights n rules ≡ None →
    (n + length rules ≤ 32) × All (IsRule weights) (rules_in rules)
unfolding rules_fault
fine_rules weights n end [] o h e = (omega arith, λ k d below. absurd (omega arith))
fine_rules weights n end (r ∷ rules) o h e =
    let p = none_of (rule_fault weights n r) (rules_fault weights (suc n) rules) e in
    let f = fine_rule weights n end r o.0 p.0 in
    let g = fine_rules weights (suc n) end rules o.1 (omega (arith, f.0)) p.1 in
    (omega (arith, g.0), each f.1 g.1)
  where
    each : IsRule weights r.rule → All (IsRule weights) (rules_in rules) → All (IsRule weights) (rules_in (r ∷ rules))
    each one more zero d below = one
    each one more (suc k) d below = more k d (omega arith)

pub book_sound : (t : Items) (text : List ℕ) → rules_text 1 t text → fault_of t ≡ None → IsRulebook (book_of t)
unfolding fault_of
book_sound t text is e =
    let p = none_of (weights_fault [] t.weights) (rules_fault (weights_in t.weights) 0 t.rules) e in
    let g = fine_rules (weights_in t.weights) 0 (1 + length text) t.rules (text_rules t text is) (omega arith) p.1 in
    let few = few_weights [] t.weights (omega arith) p.0 in
    let some : 1 ≤ length t.weights = omega (arith, ap (λ (z : Items). length z.weights) is.same) in
    let count : length (symbols_of (weights_in t.weights)) ≡ length t.weights = length-map (weights_in t.weights) (λ w. w.symbol) ∙ length-map t.weights
    (λ w. w.weight) in
    let n = is.is.second in
    let first = weight_symbol 1 is.made_of.0 is.is.before is.is.first in
    let others = weight_symbols (1 + length is.is.before) is.made_of.1.0 n.before n.first in
    let all : list_all is_symbol (symbols_of (weights_in t.weights)) ≡ true =
    ap (λ (z : Items). list_all is_symbol (symbols_of (weights_in z.weights))) is.same ∙ and_from (is_symbol is.made_of.0.weight.symbol) (list_all is_symbol
    (symbols_of (weights_in is.made_of.1.0))) first others in
    let cs = symbols_of (weights_in t.weights) in
    record {
      symbols = and_from (nat_le 1 (length cs) && nat_le (length cs) 16 && list_all is_symbol cs) (all_distinct cs)
          (and_from (nat_le 1 (length cs) && nat_le (length cs) 16) (list_all is_symbol cs) (and_from (nat_le 1 (length cs)) (nat_le (length cs) 16)
          (le-leb 1 (length cs) (omega arith)) (le-leb (length cs) 16 (omega (arith, few)))) all)
          (distinct [] t.weights p.0);
      few = omega (arith, g.0, length-map t.rules (λ r. r.rule));
      rules = g.1;
    }

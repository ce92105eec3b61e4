-- Weights and rules, told apart by their first byte and by the one behind it.
use Rattle.std.proofs.Common.{◌≡◌, ℕ, ◌+◌, Bool, true, false, ◌&&◌, ◌||◌, leb, ◌⊎◌, inl, inr, List, [], ◌∷◌, length, refl, ap, sym, subst, ◌∙◌, arith}
use Rattle.cg_reading.specs.Bytes.{Class, has}
use Rattle.cg_reading.specs.Pieces.{Piece, Then, Or, Made, One}
use Rattle.cg_reading.specs.Tokens.{only}
use Rattle.cg_reading.proofs.Sets.{has_append, inside, wider_begins}
use Rattle.cg_moves.specs.declared.player.Player.{Player}
use Rattle.cg_strip.specs.Grammar as s
use Rattle.cg_strip.specs.Grammar.{symbol, weight_item, rule_item}
use Rattle.cg_strip.specs.Reading.{letter, player_of, lettered}
use Rattle.cg_reading.specs.Turns.{Either}
use Rattle.cg_strip.specs.declared.items.WeightItem.{WeightItem}
use Rattle.cg_strip.specs.declared.items.RuleItem.{RuleItem}
use Rattle.cg_strip.proofs.Productions.{weighing, weight_of, rewriting, lettered_rule, other, lettered_item, item}

one_wider : (c d : Class) (i b : ℕ) (text : List ℕ) → inside c d ≡ true → One c i b text → One d i b text
one_wider c d i b text h is = record { within = wider_begins c d false (b ∷ []) h is.within; spelled = is.spelled }

-- ---- weights

pub weight_is : (c : Class) → inside c symbol ≡ true → (i : ℕ) (w : WeightItem) (text : List ℕ) → weight_of c i w text → s.weight i w text
weight_is c h i w text is =
    let v = is.made_of in
    let t = is.is in
    let n = t.second in
    record {
      made_of = (v.0, n.made_of);
      is = record {
        before = t.before;
        behind = t.behind;
        first = (t.first.0, one_wider c symbol i v.0.1 t.before h t.first.1);
        second = n.is;
        spelled = t.spelled;
      };
      same = is.same ∙ ap (λ z. weight_item v.0 z) n.same;
    }

pub weight_as : (c : Class) (i : ℕ) (w : WeightItem) (text : List ℕ) (is : s.weight i w text) → has c is.made_of.0.1 ≡ true → weight_of c i w text
weight_as c i w text is h =
    let v = is.made_of in
    let t = is.is in
    record {
      made_of = (v.0, v.1.1);
      is = record {
        before = t.before;
        behind = t.behind;
        first = (t.first.0, record { within = h; spelled = t.first.1.spelled });
        second = record { made_of = v.1; is = t.second; same = refl };
        spelled = t.spelled;
      };
      same = is.same;
    }

-- ---- rules

letter_cases : (b : ℕ) → has letter b ≡ true → (has s.letter_l b ≡ true) ⊎ (has s.letter_r b ≡ true)
letter_cases b h = grind arith

only_is : (n b : ℕ) → has (only n) b ≡ true → b ≡ n
only_is n b h = grind arith

player_is : (i : ℕ) (b : ℕ) (text : List ℕ) → One letter i b text → s.player i (player_of b) text
player_is i b text is = elim (letter_cases b is.within) [
  | inl h ↦ inl (record { made_of = b; is = record { within = h; spelled = is.spelled }; same = ap player_of (only_is 76 b h) })
  | inr h ↦ inr (record { made_of = b; is = record { within = h; spelled = is.spelled }; same = ap player_of (only_is 82 b h) })
]

player_as : (i : ℕ) (p : Player) (text : List ℕ) → s.player i p text → (b : ℕ) × One letter i b text × (p ≡ player_of b)
player_as i p text (inl is) = (
  is.made_of,
  one_wider s.letter_l letter i is.made_of text refl is.is,
  is.same ∙ ap player_of
      (sym (only_is 76 is.made_of is.is.within)),
)
player_as i p text (inr is) = (
  is.made_of,
  one_wider s.letter_r letter i is.made_of text refl is.is,
  is.same ∙ ap player_of
      (sym (only_is 82 is.made_of is.is.within)),
)

pub rule_is : (i : ℕ) (v : RuleItem) (text : List ℕ) → lettered_rule i v text → s.rule i v text
rule_is i v text is =
    let p = is.made_of.0 in
    let t = is.is in
    let n = t.second in
    record {
      made_of = ((p.0, player_of p.1), (n.made_of.0, (n.made_of.1.0, n.made_of.1.1.1)));
      is = record {
        before = t.before;
        behind = t.behind;
        first = (t.first.0, player_is i p.1 t.before t.first.1);
        second = record {
          before = n.is.before;
          behind = n.is.behind;
          first = n.is.first;
          second = record {
            made_of = n.made_of.1;
            is = n.is.second;
            same = refl;
          };
          spelled = n.is.spelled;
        };
        spelled = t.spelled;
      };
      same = is.same ∙ ap (λ z. rule_item (p.0, player_of p.1) z) n.same;
    }

pub rule_as : (i : ℕ) (v : RuleItem) (text : List ℕ) → s.rule i v text → lettered_rule i v text
rule_as i v text is =
    let p = is.made_of.0 in
    let x = is.made_of.1.1 in
    let t = is.is in
    let n = t.second in
    let w = player_as i p.1 t.before t.first.1 in
    record {
      made_of = ((p.0, w.0), x);
      is = record {
        before = t.before;
        behind = t.behind;
        first = (t.first.0, w.1);
        second = record {
          made_of = (is.made_of.1.0, n.second.made_of);
          is = record { before = n.before; behind = n.behind; first = n.first; second = n.second.is; spelled = n.spelled };
          same = n.second.same;
        };
        spelled = t.spelled;
      };
      same = is.same ∙ ap (λ z. rule_item (p.0, z) x) w.2;
    }

-- ---- items

abbrev capital : Class
capital = (65, 90) ∷ []

abbrev other_capital : Class
other_capital = (65, 75) ∷ (77, 81) ∷ (83, 90) ∷ []

-- the capitals are two letters and the others
capital_is : (b : ℕ) → has letter b ≡ false → has capital b ≡ has other_capital b
capital_is b h = grind arith

pub symbol_is : (b : ℕ) → has letter b ≡ false → has symbol b ≡ has other b
symbol_is b h =
    ap (λ (x : Bool). (leb 46 b && leb b 46) || x) (has_append capital ((97, 122) ∷ []) b ∙ ap (λ (x : Bool). x || has ((97, 122) ∷ []) b) (capital_is b h)
    ∙ sym (has_append other_capital ((97, 122) ∷ []) b))

lettered_is : (i : ℕ) (x : WeightItem ⊎ RuleItem) (text : List ℕ) → lettered_item i x text → Either s.weight s.rule i x text
lettered_is i x text is = by_body is.is.second
  where
    by_body : Or (Made inl weighing) (Made inr rewriting) (i + length is.is.before) is.made_of.1 is.is.behind → Either s.weight s.rule i x text
    by_body (inl m) = subst (λ (z : WeightItem ⊎ RuleItem). Either s.weight s.rule i z text) (sym (is.same ∙ ap (lettered is.made_of.0) m.same))
        (weight_is letter refl i (weight_item is.made_of.0 m.made_of) text (record {
          made_of = (is.made_of.0, m.made_of);
          is = record {
            before = is.is.before;
            behind = is.is.behind;
            first = is.is.first;
            second = m.is;
            spelled = is.is.spelled;
          };
          same = refl;
        }))
    by_body (inr m) = subst (λ (z : WeightItem ⊎ RuleItem). Either s.weight s.rule i z text) (sym (is.same ∙ ap (lettered is.made_of.0) m.same))
        (rule_is i (rule_item (is.made_of.0.0, player_of is.made_of.0.1) m.made_of) text (record {
          made_of = (is.made_of.0, m.made_of);
          is = record { before = is.is.before; behind = is.is.behind; first = is.is.first; second = m.is; spelled = is.is.spelled };
          same = refl;
        }))

pub item_is : (i : ℕ) (x : WeightItem ⊎ RuleItem) (text : List ℕ) → item i x text → Either s.weight s.rule i x text
item_is i x text (inl is) = lettered_is i x text is
item_is i x text (inr is) = subst (λ (z : WeightItem ⊎ RuleItem). Either s.weight s.rule i z text) (sym is.same) (weight_is other refl i is.made_of text is.is)

pub item_as : (i : ℕ) (x : WeightItem ⊎ RuleItem) (text : List ℕ) → Either s.weight s.rule i x text → item i x text
item_as i (inl w) text is = by_letter (has letter is.made_of.0.1) refl
  where
    by_letter : (t : Bool) → has letter is.made_of.0.1 ≡ t → item i (inl w) text
    by_letter true h =
        let a = weight_as letter i w text is h in
        inl (record {
          made_of = (a.made_of.0, inl a.made_of.1);
          is = record {
            before = a.is.before;
            behind = a.is.behind;
            first = a.is.first;
            second = inl (record {
              made_of = a.made_of.1;
              is = a.is.second;
              same = refl;
            });
            spelled = a.is.spelled;
          };
          same = ap inl a.same;
        })
    by_letter false h = inr (record { made_of = w; is = weight_as other i w text is (sym (symbol_is is.made_of.0.1 h) ∙ is.is.first.1.within); same = refl })
item_as i (inr v) text is =
    let a = rule_as i v text is in
    inl (record {
      made_of = (a.made_of.0, inr a.made_of.1);
      is = record {
        before = a.is.before;
        behind = a.is.behind;
        first = a.is.first;
        second = inr (record {
          made_of = a.made_of.1;
          is = a.is.second;
          same = refl;
        });
        spelled = a.is.spelled;
      };
      same = ap inr a.same;
    })

-- ---- items behind a semicolon

abbrev pub turn : Piece (WeightItem ⊎ RuleItem)
turn = s.behind_semicolon item

either_behind : (i b : ℕ) (x : WeightItem ⊎ RuleItem) (text : List ℕ) → Then (One s.semicolon) (Either s.weight s.rule) i (b, x) text →
    Either (s.behind_semicolon s.weight) (s.behind_semicolon s.rule) i x text
either_behind i b (inl w) text is = record { made_of = (b, w); is = is; same = refl }
either_behind i b (inr r) text is = record { made_of = (b, r); is = is; same = refl }

pub turn_is : (i : ℕ) (x : WeightItem ⊎ RuleItem) (text : List ℕ) → turn i x text → Either (s.behind_semicolon s.weight) (s.behind_semicolon s.rule) i x text
turn_is i x text is =
    let t = is.is in
    subst (λ (z : WeightItem ⊎ RuleItem). Either (s.behind_semicolon s.weight) (s.behind_semicolon s.rule) i z text) (sym is.same)
    (either_behind i is.made_of.0 is.made_of.1 text (record {
      before = t.before;
      behind = t.behind;
      first = t.first;
      second = item_is (i + length t.before) is.made_of.1 t.behind t.second;
      spelled = t.spelled;
    }))

pub turn_as : (i : ℕ) (x : WeightItem ⊎ RuleItem) (text : List ℕ) → Either (s.behind_semicolon s.weight) (s.behind_semicolon s.rule) i x text → turn i x text
turn_as i (inl w) text is =
    let t = is.is in
    record {
      made_of = (is.made_of.0, inl is.made_of.1);
      is = record {
        before = t.before;
        behind = t.behind;
        first = t.first;
        second = item_as (i + length t.before) (inl is.made_of.1) t.behind t.second;
        spelled = t.spelled;
      };
      same = ap inl is.same;
    }
turn_as i (inr r) text is =
    let t = is.is in
    record {
      made_of = (is.made_of.0, inr is.made_of.1);
      is = record {
        before = t.before;
        behind = t.behind;
        first = t.first;
        second = item_as (i + length t.before) (inr is.made_of.1) t.behind t.second;
        spelled = t.spelled;
      };
      same = ap inr is.same;
    }

-- A whole rules text is read.
use Rattle.std.proofs.Common.{◌≡◌, ℕ, Bool, true, false, cond, inl, List, [], ◌∷◌, ◌++◌, refl}
use Rattle.cg_reading.specs.Bytes.{has}
use Rattle.cg_reading.specs.Pieces.{Then, Many}
use Rattle.cg_reading.specs.Readers.{or_at, many_at, made_at}
use Rattle.cg_reading.specs.Tokens.{digit}
use Rattle.cg_reading.proofs.Laws.{Lawful, Some_text, said_lawful, same_ok}
use Rattle.cg_reading.proofs.Rules.{then_ok, made_ok, many_ok, wide_ok, then_text}
use Rattle.cg_reading.proofs.TokenLaws.{byte_ok}
use Rattle.cg_strip.specs.Grammar as s
use Rattle.cg_strip.specs.Grammar.{symbol, weight_item, items_of}
use Rattle.cg_strip.specs.Reading as r
use Rattle.cg_strip.specs.Reading.{letter}
use Rattle.cg_reading.specs.Turns.{Either, turns_at}
use Rattle.cg_strip.proofs.Productions.{weight_of, weight_of_ok, lettered_rule, lettered_rule_ok, item}
use Rattle.cg_strip.proofs.Productions.{item_follow, other_at, other_item_ok, some_rule, some_item}
use Rattle.cg_strip.proofs.SaidItems.{turn, turn_is, turn_as, weight_is, weight_as, rule_is, rule_as, symbol_is}
use Rattle.cg_reading.proofs.TurnLaws.{Turns, turns_lawful, to_turned, from_turned}

-- behind no letter any symbol is another one
item_same : (end : ℕ) (bytes : List ℕ) → or_at letter r.lettered_at other_at end bytes ≡ r.item_at end bytes
unfolding r.item_at r.weight_at
item_same end [] = refl
item_same end (b ∷ bytes) = chosen (has letter b) refl
  where
    chosen : (t : Bool) → has letter b ≡ t → cond t (r.lettered_at end (b ∷ bytes)) (other_at end (b ∷ bytes)) ≡ cond t (r.lettered_at end (b ∷ bytes))
        (made_at inl r.weight_at end (b ∷ bytes))
    chosen true h = refl
    chosen false h = rw (symbol_is b h) refl

item_ok : Lawful item r.item_at symbol false item_follow
item_ok = same_ok r.item_at item_same other_item_ok

pub turn_ok : Lawful (Either (s.behind_semicolon s.weight) (s.behind_semicolon s.rule)) r.turn_at s.semicolon false item_follow
unfolding r.turn_at
turn_ok = said_lawful turn (Either (s.behind_semicolon s.weight) (s.behind_semicolon s.rule)) r.turn_at s.semicolon false item_follow turn_is turn_as
    (made_ok (λ v. v.1) (then_ok (byte_ok 59 refl) item_ok some_item refl))

pub rule_ok : Lawful s.rule r.rule_at letter false symbol
rule_ok = said_lawful lettered_rule s.rule r.rule_at letter false symbol rule_is rule_as lettered_rule_ok

pub next_rule_ok : Lawful (s.behind_semicolon s.rule) r.next_rule_at s.semicolon false item_follow
unfolding r.next_rule_at
next_rule_ok = wide_ok s.semicolon item_follow (made_ok (λ v. v.1) (then_ok (byte_ok 59 refl) rule_ok (λ j. let t = some_rule j in record {
  value = t.value;
  text = t.text;
  is = rule_is j t.value t.text t.is;
}) refl)) refl refl

weight_ok : Lawful s.weight r.weight_at symbol false digit
unfolding r.weight_at
weight_ok = said_lawful (weight_of symbol) s.weight r.weight_at symbol false digit (weight_is symbol refl) (λ i w text is. weight_as symbol i w text is
    is.is.first.1.within) (weight_of_ok symbol 46 refl)

-- ---- all items behind the first weight

rules_ok : Lawful (Many (s.behind_semicolon s.rule)) (many_at s.semicolon r.next_rule_at) s.semicolon true (item_follow ++ s.semicolon)
rules_ok = many_ok next_rule_ok refl

items_ok : Lawful (Then (Many (s.behind_semicolon s.weight)) (Many (s.behind_semicolon s.rule))) (turns_at s.semicolon r.turn_at (many_at s.semicolon
    r.next_rule_at)) s.semicolon true (item_follow ++ s.semicolon)
items_ok =
    let R = s.behind_semicolon s.weight in
    let S = s.behind_semicolon s.rule in
    said_lawful (Turns R S) (Then (Many R) (Many S)) (turns_at s.semicolon r.turn_at (many_at s.semicolon r.next_rule_at)) s.semicolon true (item_follow
    ++ s.semicolon)
    (λ i v text is. from_turned R S i v.0 v.1 text is) (λ i v text is. to_turned R S i v.0 v.1 text is)
    (turns_lawful R S r.turn_at (many_at s.semicolon r.next_rule_at) s.semicolon item_follow turn_ok rules_ok refl)

no_items : (j : ℕ) → Some_text (Then (Many (s.behind_semicolon s.weight)) (Many (s.behind_semicolon s.rule))) j
no_items j = then_text {S = Many (s.behind_semicolon s.rule)} j (record { value = []; text = []; is = refl }) (λ k. record { value = []; text = []; is = refl })

pub rules_text_ok : Lawful s.rules_text r.rules_text_at symbol false (item_follow ++ s.semicolon)
unfolding r.rules_text_at
rules_text_ok = wide_ok symbol (item_follow ++ s.semicolon) (made_ok items_of (then_ok weight_ok items_ok no_items refl)) refl refl

-- The laws of the readers of the grammar.
use Rattle.std.proofs.Common.{◌≡◌, ℕ, true, false, ◌⊎◌, inl, inr, List, [], ◌∷◌, refl, arith}
use Rattle.cg_reading.specs.Bytes.{Class, has}
use Rattle.cg_reading.specs.Pieces.{Piece, Then, Or, Made, One, Bytes, Placed}
use Rattle.cg_reading.specs.Readers.{Reader, then_at, or_at, made_at, one_at, placed_at}
use Rattle.cg_reading.specs.Tokens.{only, digit}
use Rattle.cg_reading.proofs.Laws.{Lawful, Some_text}
use Rattle.cg_reading.proofs.ByteRuns.{one_lawful, one_text, bytes_lawful, no_text}
use Rattle.cg_reading.proofs.Rules.{then_ok, or_ok, made_ok, placed_ok, wide_ok, then_text, made_text, left_text}
use Rattle.cg_reading.proofs.TokenLaws.{byte_ok, byte_text, few_digits_ok, few_digits_text}
use Rattle.cg_strip.specs.Grammar as s
use Rattle.cg_strip.specs.Grammar.{symbol, weight_item, rule_item, items_of}
use Rattle.cg_strip.specs.Reading as r
use Rattle.cg_strip.specs.Reading.{letter, player_of, lettered}
use Rattle.cg_strip.specs.declared.items.WeightItem.{WeightItem}
use Rattle.cg_strip.specs.declared.items.RuleItem.{RuleItem}

nat_ok : Lawful s.nat r.nat_at digit false digit
nat_ok = few_digits_ok 3 (omega arith)

nat_text : (j : ℕ) → Some_text s.nat j
nat_text = few_digits_text 3 (omega arith)

-- a comma and a number
one_more : (j : ℕ) → Some_text (Then (One (only 44)) s.nat) j
one_more j = then_text {S = s.nat} j (byte_text 44 refl j) nat_text

two_more : (j : ℕ) → Some_text (Then (One (only 44)) (Then s.nat (Then (One (only 44)) s.nat))) j
two_more j = then_text {S = Then s.nat (Then (One (only 44)) s.nat)} j (byte_text 44 refl j) (λ k. then_text {S = Then (One (only 44)) s.nat} k (nat_text k)
    one_more)

numbers_ok : Lawful s.numbers r.numbers_at digit false digit
unfolding r.numbers_at
numbers_ok = made_ok (λ v. (v.0, (v.1.1.0, v.1.1.1.1)))
    (then_ok nat_ok (then_ok (byte_ok 44 refl) (then_ok nat_ok (then_ok (byte_ok 44 refl) nat_ok nat_text refl) one_more refl) (λ j. then_text
    {S = Then (One (only 44)) s.nat} j (nat_text j) one_more) refl) two_more refl)

pub numbers_text : (j : ℕ) → Some_text s.numbers j
numbers_text j = made_text (λ v. (v.0, (v.1.1.0, v.1.1.1.1))) j (then_text {S = Then (One (only 44)) (Then s.nat (Then (One (only 44)) s.nat))} j (nat_text j)
    two_more)

-- ---- behind the symbol of a weight

abbrev pub weighing : Piece (ℕ × (ℕ × ℕ))
weighing = Made (λ v. v.1) (Then (One s.equals) s.numbers)

pub weighing_ok : Lawful weighing r.weighing_at s.equals false digit
unfolding r.weighing_at
weighing_ok = made_ok (λ v. v.1) (then_ok (byte_ok 61 refl) numbers_ok numbers_text refl)

pub weighing_text : (j : ℕ) → Some_text weighing j
weighing_text j = made_text (λ v. v.1) j (then_text {S = s.numbers} j (byte_text 61 refl j) numbers_text)

-- a weight of a symbol of this set
abbrev pub weight_of : Class → Piece WeightItem
weight_of c = Made (λ v. weight_item v.0 v.1) (Then (Placed (One c)) weighing)

pub weight_of_ok : (c : Class) (b : ℕ) → has c b ≡ true → Lawful (weight_of c) (made_at (λ v. weight_item v.0 v.1) (then_at (placed_at (one_at c))
    r.weighing_at)) c false digit
weight_of_ok c b h = made_ok (λ v. weight_item v.0 v.1) (then_ok (placed_ok (one_lawful c b h)) weighing_ok weighing_text refl)

-- ---- behind the letter of a rule

symbols_ok : Lawful s.symbols r.symbols_at symbol false symbol
unfolding r.symbols_at
symbols_ok = made_ok (λ v. v.0 ∷ v.1) (then_ok (one_lawful symbol 46 refl) (bytes_lawful symbol) (no_text symbol) refl)

symbols_text : (j : ℕ) → Some_text s.symbols j
symbols_text j = made_text (λ v. v.0 ∷ v.1) j (then_text {S = Bytes symbol} j (one_text symbol 46 refl j) (no_text symbol))

placed_text : (j : ℕ) → Some_text (Placed s.symbols) j
placed_text j = let t = symbols_text j in record { value = (j, t.value); text = t.text; is = (refl, t.is) }

abbrev pub rewriting : Piece ((ℕ × List ℕ) × (ℕ × List ℕ))
rewriting = Made (λ v. (v.1.0, v.1.1.1)) (Then (One s.colon) (Then (Placed s.symbols) (Then (One s.greater) (Placed s.symbols))))

replacement_text : (j : ℕ) → Some_text (Then (One s.greater) (Placed s.symbols)) j
replacement_text j = then_text {S = Placed s.symbols} j (byte_text 62 refl j) placed_text

pattern_text : (j : ℕ) → Some_text (Then (Placed s.symbols) (Then (One s.greater) (Placed s.symbols))) j
pattern_text j = then_text {S = Then (One s.greater) (Placed s.symbols)} j (placed_text j) replacement_text

pub rewriting_ok : Lawful rewriting r.rewriting_at s.colon false symbol
unfolding r.rewriting_at
rewriting_ok = made_ok (λ v. (v.1.0, v.1.1.1)) (then_ok (byte_ok 58 refl) (then_ok (placed_ok symbols_ok) (then_ok (byte_ok 62 refl) (placed_ok symbols_ok)
    placed_text refl) replacement_text refl) pattern_text refl)

pub rewriting_text : (j : ℕ) → Some_text rewriting j
rewriting_text j = made_text (λ v. (v.1.0, v.1.1.1)) j (then_text {S = Then (Placed s.symbols) (Then (One s.greater) (Placed s.symbols))} j (byte_text 58 refl
    j) pattern_text)

abbrev pub lettered_rule : Piece RuleItem
lettered_rule = Made (λ v. rule_item (v.0.0, player_of v.0.1) v.1) (Then (Placed (One letter)) rewriting)

pub lettered_rule_ok : Lawful lettered_rule r.rule_at letter false symbol
unfolding r.rule_at
lettered_rule_ok = made_ok (λ v. rule_item (v.0.0, player_of v.0.1) v.1) (then_ok (placed_ok (one_lawful letter 76 refl)) rewriting_ok rewriting_text refl)

-- ---- items

-- digits and symbols: what may not follow an item
abbrev pub item_follow : Class
item_follow = (48, 57) ∷ (46, 46) ∷ (65, 90) ∷ (97, 122) ∷ []

-- symbols that are no letter of a player
abbrev pub other : Class
other = (46, 46) ∷ (65, 75) ∷ (77, 81) ∷ (83, 90) ∷ (97, 122) ∷ []

abbrev pub lettered_item : Piece (WeightItem ⊎ RuleItem)
lettered_item = Made (λ v. lettered v.0 v.1) (Then (Placed (One letter)) (Or (Made inl weighing) (Made inr rewriting)))

pub body_text : (j : ℕ) → Some_text (Or (Made inl weighing) (Made inr rewriting)) j
body_text j = left_text j (made_text inl j (weighing_text j))

pub lettered_item_ok : Lawful lettered_item r.lettered_at letter false item_follow
unfolding r.lettered_at
lettered_item_ok = wide_ok letter item_follow (made_ok (λ v. lettered v.0 v.1) (then_ok (placed_ok (one_lawful letter 76 refl)) (or_ok (made_ok inl weighing_ok)
    (made_ok inr rewriting_ok) refl) body_text refl)) refl refl

abbrev pub item : Piece (WeightItem ⊎ RuleItem)
item = Or lettered_item (Made inl (weight_of other))

abbrev pub other_at : Reader (WeightItem ⊎ RuleItem)
other_at = made_at inl (made_at (λ v. weight_item v.0 v.1) (then_at (placed_at (one_at other)) r.weighing_at))

pub other_item_ok : Lawful item (or_at letter r.lettered_at other_at) symbol false item_follow
other_item_ok = wide_ok symbol item_follow (or_ok lettered_item_ok (made_ok inl (weight_of_ok other 46 refl)) refl) refl refl

letter_text : (j : ℕ) → Some_text (Placed (One letter)) j
letter_text j = let t = one_text letter 76 refl j in record { value = (j, t.value); text = t.text; is = (refl, t.is) }

pub some_rule : (j : ℕ) → Some_text lettered_rule j
some_rule j = made_text (λ v. rule_item (v.0.0, player_of v.0.1) v.1) j (then_text {S = rewriting} j (letter_text j) rewriting_text)

pub some_item : (j : ℕ) → Some_text item j
some_item j = left_text j (made_text (λ v. lettered v.0 v.1) j (then_text {S = Or (Made inl weighing) (Made inr rewriting)} j (letter_text j) body_text))

-- The grammar of a rules text, a definition for each production.
--
--   rules  = weight { ";" weight } { ";" rule }
--   weight = symbol "=" nat "," nat "," nat
--   rule   = ( "L" | "R" ) ":" symbol { symbol } ">" symbol { symbol }
--   symbol = "A" to "Z" | "a" to "z" | "."
--   nat    = one to three digits
use Rattle.std.specs.Prelude.{ℕ, List, [], ◌∷◌}
use Rattle.cg_reading.specs.Bytes.{Class}
use Rattle.cg_reading.specs.Pieces.{Piece, Then, Or, Many, Made, One, Bytes, Placed}
use Rattle.cg_reading.specs.Tokens.{few_digits, only}
use Rattle.cg_moves.specs.declared.player.Player.{Player}
use Rattle.cg_moves.specs.declared.player.Player.TheVariants.{Left, Right}
use Rattle.cg_strip.specs.declared.items.WeightItem.{WeightItem}
use Rattle.cg_strip.specs.declared.items.RuleItem.{RuleItem}

-- ---- bytes by name

abbrev pub comma : Class
comma = only 44

abbrev pub colon : Class
colon = only 58

abbrev pub semicolon : Class
semicolon = only 59

abbrev pub equals : Class
equals = only 61

abbrev pub greater : Class
greater = only 62

abbrev pub letter_l : Class
letter_l = only 76

abbrev pub letter_r : Class
letter_r = only 82

abbrev pub symbol : Class
symbol = (46, 46) ∷ (65, 90) ∷ (97, 122) ∷ []

-- ---- weights

abbrev pub nat : Piece ℕ
nat = few_digits 3

-- three numbers
abbrev pub numbers : Piece (ℕ × (ℕ × ℕ))
numbers = Made (λ v. (v.0, (v.1.1.0, v.1.1.1.1))) (Then nat (Then (One comma) (Then nat (Then (One comma) nat))))

-- the weight of the symbol at this place
abbrev pub weight_item : ℕ × ℕ → ℕ × (ℕ × ℕ) → WeightItem
weight_item s n = record { place = s.0; weight = record { symbol = s.1; base = n.0; left = n.1.0; right = n.1.1 } }

abbrev pub weight : Piece WeightItem
weight = Made (λ v. weight_item v.0 v.1.1) (Then (Placed (One symbol)) (Then (One equals) numbers))

-- ---- rules

abbrev pub player : Piece Player
player = Or (Made (λ _. Left) (One letter_l)) (Made (λ _. Right) (One letter_r))

-- one symbol or more
abbrev pub symbols : Piece (List ℕ)
symbols = Made (λ v. v.0 ∷ v.1) (Then (One symbol) (Bytes symbol))

-- the rule of the player at this place
abbrev pub rule_item : ℕ × Player → (ℕ × List ℕ) × (ℕ × List ℕ) → RuleItem
rule_item p v = record { place = p.0; pattern_place = v.0.0; replacement_place = v.1.0; rule = record { player = p.1; pattern = v.0.1; replacement = v.1.1 } }

-- a pattern and a replacement
abbrev pub rewriting : Piece ((ℕ × List ℕ) × (ℕ × List ℕ))
rewriting = Made (λ v. (v.0, v.1.1)) (Then (Placed symbols) (Then (One greater) (Placed symbols)))

abbrev pub rule : Piece RuleItem
rule = Made (λ v. rule_item v.0 v.1.1) (Then (Placed player) (Then (One colon) rewriting))

-- ---- rules texts

abbrev pub behind_semicolon : {A : Type 0} → Piece A → Piece A
behind_semicolon R = Made (λ v. v.1) (Then (One semicolon) R)

-- the items of a text: its weights and its rules, in order
pub record Items : Type 0 where
  pub weights : List WeightItem
  pub rules : List RuleItem

abbrev pub items_of : WeightItem × (List WeightItem × List RuleItem) → Items
items_of v = record { weights = v.0 ∷ v.1.0; rules = v.1.1 }

abbrev pub rules_text : Piece Items
rules_text = Made items_of (Then weight (Then (Many (behind_semicolon weight)) (Many (behind_semicolon rule))))

-- Reading a rules text from its front, piece by piece. The functions of the code are told by these what they return.
use Rattle.std.specs.Prelude.{ℕ, cond, ◌==◌, List, [], ◌∷◌, ◌⊎◌}
use mathlib.Core.Logic.{inl, inr}
use Rattle.cg_reading.specs.Bytes.{Class}
use Rattle.cg_reading.specs.Readers.{Reader, then_at, or_at, many_at, made_at, one_at, bytes_at, placed_at}
use Rattle.cg_reading.specs.TokenReaders.{byte_at, few_digits_at}
use Rattle.cg_moves.specs.declared.player.Player.{Player}
use Rattle.cg_moves.specs.declared.player.Player.TheVariants.{Left, Right}
use Rattle.cg_strip.specs.Grammar.{equals, semicolon, symbol, weight_item, rule_item, Items, items_of}
use Rattle.cg_reading.specs.Turns.{turns_at}
use Rattle.cg_strip.specs.declared.items.WeightItem.{WeightItem}
use Rattle.cg_strip.specs.declared.items.RuleItem.{RuleItem}

-- the number of all digits in front, one to three of them
abbrev pub nat_at : Reader ℕ
nat_at = few_digits_at 3

unfoldable pub numbers_at : Reader (ℕ × (ℕ × ℕ))
numbers_at = made_at (λ v. (v.0, (v.1.1.0, v.1.1.1.1))) (then_at nat_at (then_at (byte_at 44) (then_at nat_at (then_at (byte_at 44) nat_at))))

-- what stands behind the symbol of a weight
unfoldable pub weighing_at : Reader (ℕ × (ℕ × ℕ))
weighing_at = made_at (λ v. v.1) (then_at (byte_at 61) numbers_at)

unfoldable pub weight_at : Reader WeightItem
weight_at = made_at (λ v. weight_item v.0 v.1) (then_at (placed_at (one_at symbol)) weighing_at)

unfoldable pub symbols_at : Reader (List ℕ)
symbols_at = made_at (λ v. v.0 ∷ v.1) (then_at (one_at symbol) (bytes_at symbol))

-- what stands behind the letter of a rule
unfoldable pub rewriting_at : Reader ((ℕ × List ℕ) × (ℕ × List ℕ))
rewriting_at = made_at (λ v. (v.1.0, v.1.1.1)) (then_at (byte_at 58) (then_at (placed_at symbols_at) (then_at (byte_at 62) (placed_at symbols_at))))

-- the letters of the players
abbrev pub letter : Class
letter = (76, 76) ∷ (82, 82) ∷ []

abbrev pub player_of : ℕ → Player
player_of b = cond (b == 76) Left Right

unfoldable pub rule_at : Reader RuleItem
rule_at = made_at (λ v. rule_item (v.0.0, player_of v.0.1) v.1) (then_at (placed_at (one_at letter)) rewriting_at)

abbrev pub lettered : ℕ × ℕ → (ℕ × (ℕ × ℕ)) ⊎ ((ℕ × List ℕ) × (ℕ × List ℕ)) → WeightItem ⊎ RuleItem
lettered s (inl n) = inl (weight_item s n)
lettered s (inr v) = inr (rule_item (s.0, player_of s.1) v)

-- behind a letter only the next byte tells a weight from a rule
unfoldable pub lettered_at : Reader (WeightItem ⊎ RuleItem)
lettered_at = made_at (λ v. lettered v.0 v.1) (then_at (placed_at (one_at letter)) (or_at equals (made_at inl weighing_at) (made_at inr rewriting_at)))

unfoldable pub item_at : Reader (WeightItem ⊎ RuleItem)
item_at = or_at letter lettered_at (made_at inl weight_at)

unfoldable pub turn_at : Reader (WeightItem ⊎ RuleItem)
turn_at = made_at (λ v. v.1) (then_at (byte_at 59) item_at)

unfoldable pub next_rule_at : Reader RuleItem
next_rule_at = made_at (λ v. v.1) (then_at (byte_at 59) rule_at)

unfoldable pub rules_text_at : Reader Items
rules_text_at = made_at items_of (then_at weight_at (turns_at semicolon turn_at (many_at semicolon next_rule_at)))

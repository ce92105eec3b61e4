-- The rules of Toads and Frogs, read.
use Rattle.std.proofs.Common.{◌≡◌, ℕ, List, [], ◌∷◌, ◌++◌, Ok, refl, ap, sym, ◌∙◌, append-nil}
use Rattle.cg_reading.specs.Readers.{whole_at}
use Rattle.cg_reading.specs.TokenReaders.{byte_at, few_digits_at}
use Rattle.cg_reading.proofs.WholeLines.{whole_once, whole_takes}
use Rattle.cg_moves.specs.declared.player.Player.{Player}
use Rattle.cg_moves.specs.declared.player.Player.TheVariants.{Left, Right}
use Rattle.cg_moves.specs.Rising.{rising}
use Rattle.cg_strip.specs.Grammar.{Items, rules_text}
use Rattle.cg_strip.specs.Reading.{numbers_at, weighing_at, weight_at, symbols_at, rewriting_at, rule_at}
use Rattle.cg_strip.specs.Reading.{lettered_at, item_at, turn_at, next_rule_at, rules_text_at}
use Rattle.cg_strip.specs.Faults.{fault_of, rule_fault, rules_fault, unweighted_fault, weights_fault}
use Rattle.cg_strip.specs.Rulebook.{Rulebook}
use Rattle.cg_strip.specs.RuleFaults.{IsReadAs, book_of}
use Rattle.cg_strip.specs.Placing.{all_placed, moves_by}
use Rattle.cg_strip.specs.Toads.{empty, frog, toad, toads_moves}
use Rattle.cg_strip.specs.Laws.{ToadsAreStrip, toads_book, toads_text}
use Rattle.cg_strip.proofs.WholeRules.{read_ok}
use Rattle.cg_strip.proofs.WholeText.{rules_text_ok}

toads_items : Items
toads_items = record {
  weights =
      record { place = 1; weight = record { symbol = empty; base = 0; left = 0; right = 0 } }
      ∷ record { place = 9; weight = record { symbol = toad; base = 0; left = 0; right = 1 } }
      ∷ record { place = 17; weight = record { symbol = frog; base = 0; left = 1; right = 0 } } ∷ [];
  rules =
      record {
        place = 25;
        pattern_place = 27;
        replacement_place = 30;
        rule = record {
          player = Left;
          pattern = toad ∷ empty ∷ [];
          replacement = empty ∷ toad ∷ [];
        };
      }
      ∷ record {
        place = 33;
        pattern_place = 35;
        replacement_place = 39;
        rule = record {
          player = Left;
          pattern = toad ∷ frog ∷ empty ∷ [];
          replacement = empty ∷ frog ∷ toad ∷ [];
        };
      }
      ∷ record {
        place = 43;
        pattern_place = 45;
        replacement_place = 48;
        rule = record {
          player = Right;
          pattern = empty ∷ frog ∷ [];
          replacement = frog ∷ empty ∷ [];
        };
      }
      ∷ record {
        place = 51;
        pattern_place = 53;
        replacement_place = 57;
        rule = record {
          player = Right;
          pattern = empty ∷ toad ∷ frog ∷ [];
          replacement = frog ∷ toad ∷ empty ∷ [];
        };
      } ∷ [];
}

reads : whole_at rules_text_at toads_text ≡ Ok toads_items
unfolding toads_items rules_text_at weight_at weighing_at numbers_at few_digits_at turn_at item_at lettered_at rewriting_at symbols_at next_rule_at rule_at
    byte_at
reads = refl

only_items : (t : Items) → rules_text 1 t toads_text → t ≡ toads_items
only_items t is = whole_once rules_text rules_text_at _ _ _ rules_text_ok toads_text t toads_items is (whole_takes rules_text rules_text_at _ _ _ rules_text_ok
    toads_text toads_items reads)

pub toads_read : IsReadAs toads_text toads_book
unfolding toads_items fault_of weights_fault rules_fault rule_fault unweighted_fault
toads_read = read_ok toads_text toads_items (Ok (book_of toads_items)) reads (refl, refl)

pub toads_strip : ToadsAreStrip
unfolding toads_items
toads_strip book is player row = by_player player ∙ ap (λ (b : Rulebook). moves_by b.rules player row) (sym (is.same ∙ ap book_of (only_items is.items is.is)))
  where
    by_player : (player : Player) → toads_moves player row ≡ moves_by (book_of toads_items).rules player row
    by_player Left = ap (λ (xs : List (List ℕ)). rising (all_placed (toad ∷ empty ∷ []) (empty ∷ toad ∷ []) row ++ xs))
        (sym (append-nil (all_placed (toad ∷ frog ∷ empty ∷ []) (empty ∷ frog ∷ toad ∷ []) row)))
    by_player Right = ap (λ (xs : List (List ℕ)). rising (all_placed (empty ∷ frog ∷ []) (frog ∷ empty ∷ []) row ++ xs))
        (sym (append-nil (all_placed (empty ∷ toad ∷ frog ∷ []) (frog ∷ toad ∷ empty ∷ []) row)))

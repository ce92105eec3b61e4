-- The laws of strip games and of Toads and Frogs.
use Rattle.std.specs.Prelude.{ℕ, ◌≡◌, ◌↔◌, List, [], ◌∷◌, codes}
use Rattle.cg_moves.specs.declared.player.Player.{Player}
use Rattle.cg_moves.specs.declared.player.Player.TheVariants.{Left, Right}
use Rattle.cg_moves.specs.Rules.{In}
use Rattle.cg_strip.specs.Rulebook.{Rulebook, IsRulebook}
use Rattle.cg_strip.specs.RuleFaults.{IsReadAs}
use Rattle.cg_strip.specs.Placing.{IsMove, moves_by}
use Rattle.cg_strip.specs.Toads.{IsToadsMove, empty, frog, toad, toad_weights, toads_moves}
use Rattle.cg_strip.specs.declared.rule.Rule.{Rule}

-- the rules of Toads and Frogs
abbrev pub toads_text : List ℕ
toads_text = codes ".=0,0,0;T=0,0,1;F=0,1,0;L:T.>.T;L:TF.>.FT;R:.F>F.;R:.TF>FT."

abbrev pub toads_rule : Player → List ℕ → List ℕ → Rule
toads_rule player pattern replacement = record { player = player; pattern = pattern; replacement = replacement }

-- the strip game that the text says: a toad or a frog steps onto an empty cell, or jumps over one of the other kind
abbrev pub toads_book : Rulebook
toads_book = record {
  weights = toad_weights;
  rules = toads_rule Left (toad ∷ empty ∷ []) (empty ∷ toad ∷ []) ∷ toads_rule Left (toad ∷ frog ∷ empty ∷ []) (empty ∷ frog ∷ toad ∷ [])
      ∷ toads_rule Right (empty ∷ frog ∷ []) (frog ∷ empty ∷ []) ∷ toads_rule Right (empty ∷ toad ∷ frog ∷ []) (frog ∷ toad ∷ empty ∷ [])
      ∷ [];
}

-- on each row Toads and Frogs has the moves of the strip game of these rules
abbrev pub ToadsAreStrip : Type 0
ToadsAreStrip = (book : Rulebook) → IsReadAs toads_text book → (player : Player) (row : List ℕ) → toads_moves player row ≡ moves_by book.rules player row

-- what is listed are exactly the placements of the player's rules
abbrev pub ListedArePlacements : Type 0
ListedArePlacements = (book : Rulebook) → IsRulebook book → (player : Player) (row after : List ℕ) → In after (moves_by book.rules player row) ↔ IsMove
    book.rules player row after

-- what is listed are exactly the moves of Toads and Frogs
abbrev pub ListedAreHops : Type 0
ListedAreHops = (player : Player) (row after : List ℕ) → In after (toads_moves player row) ↔ IsToadsMove player row after

-- Toads and Frogs: toads move to the right and frogs to the left.
use Rattle.std.specs.Prelude.{ℕ, ◌≡◌, ◌⊎◌, ◌==◌, ◌&&◌, List, [], ◌∷◌, ◌++◌, None}
use Rattle.std.specs.Str.{bytes_eq}
use Rattle.cg_moves.specs.declared.player.Player.{Player}
use Rattle.cg_moves.specs.declared.player.Player.TheVariants.{Left, Right}
use Rattle.cg_moves.specs.Rules.{GameRules}
use Rattle.cg_moves.specs.Rising.{rising}
use Rattle.cg_strip.specs.Placing.{all_placed}
use Rattle.cg_strip.specs.Weighing.{row_weight}
use Rattle.cg_strip.specs.declared.weight.Weight.{Weight}

abbrev pub empty : ℕ
empty = 46

abbrev pub frog : ℕ
frog = 70

abbrev pub toad : ℕ
toad = 84

-- these neighbouring cells become those, and no other cell changes
pub record Become (old new row after : List ℕ) : Type 0 where
  pub before : List ℕ
  pub behind : List ℕ
  pub stands : row ≡ before ++ (old ++ behind)
  pub written : after ≡ before ++ (new ++ behind)

-- a toad moves one cell right onto an empty cell, or jumps over one frog into the empty cell directly beyond
abbrev pub ToadMoves : List ℕ → List ℕ → Type 0
ToadMoves row after = Become (toad ∷ empty ∷ []) (empty ∷ toad ∷ []) row after ⊎ Become (toad ∷ frog ∷ empty ∷ []) (empty ∷ frog ∷ toad ∷ []) row after

-- a frog moves one cell left onto an empty cell, or jumps over one toad into the empty cell directly beyond
abbrev pub FrogMoves : List ℕ → List ℕ → Type 0
FrogMoves row after = Become (empty ∷ frog ∷ []) (frog ∷ empty ∷ []) row after ⊎ Become (empty ∷ toad ∷ frog ∷ []) (frog ∷ toad ∷ empty ∷ []) row after

abbrev pub IsToadsMove : Player → List ℕ → List ℕ → Type 0
IsToadsMove Left row after = ToadMoves row after
IsToadsMove Right row after = FrogMoves row after

-- ---- the moves in order

-- what the moves of a player lead to, step by step and jump by jump
abbrev pub hops : Player → List ℕ → List (List ℕ)
hops Left row = all_placed (toad ∷ empty ∷ []) (empty ∷ toad ∷ []) row ++ all_placed (toad ∷ frog ∷ empty ∷ []) (empty ∷ frog ∷ toad ∷ []) row
hops Right row = all_placed (empty ∷ frog ∷ []) (frog ∷ empty ∷ []) row ++ all_placed (empty ∷ toad ∷ frog ∷ []) (frog ∷ toad ∷ empty ∷ []) row

abbrev pub toads_moves : Player → List ℕ → List (List ℕ)
toads_moves player row = rising (hops player row)

-- a toad weighs the number of cells to its right, and a frog the number of cells to its left
abbrev pub toad_weights : List Weight
toad_weights =
    record { symbol = empty; base = 0; left = 0; right = 0 }
    ∷ record { symbol = toad; base = 0; left = 0; right = 1 }
    ∷ record { symbol = frog; base = 0; left = 1; right = 0 } ∷ []

-- one row of toads, frogs and empty cells
abbrev pub toads_game : GameRules
toads_game = record {
  has = λ p. (p.rows == 1) && bytes_eq p.symbols (empty ∷ toad ∷ frog ∷ []);
  moves = λ player p. toads_moves player p.cells;
  measure = λ p. row_weight toad_weights p.cells;
  number = 4;
  cut = None;
}

-- The hops of toads and frogs, cell by cell.
use Rattle.std.specs.Prelude.{ℕ, zero, suc, List, [], ◌∷◌, ◌++◌, length, reverse}
use Rattle.cg_moves.specs.Words.{Marks}
use Rattle.cg_moves.specs.declared.player.Player.{Player}
use Rattle.cg_moves.specs.declared.player.Player.TheVariants.{Left, Right}
use Rattle.cg_strip.specs.Placing.{placed_at, stands_at}
use Rattle.cg_strip.specs.Toads.{empty, frog, toad}
use Rattle.cg_strip.specs.declared.hopping.HopWords.{HopWords}

-- what stands where a step of the player begins
abbrev pub stepping : Player → List ℕ
stepping Left = toad ∷ empty ∷ []
stepping Right = empty ∷ frog ∷ []

-- what stands there after it
abbrev pub stepped : Player → List ℕ
stepped Left = empty ∷ toad ∷ []
stepped Right = frog ∷ empty ∷ []

-- what stands where a jump of the player begins
abbrev pub jumping : Player → List ℕ
jumping Left = toad ∷ frog ∷ empty ∷ []
jumping Right = empty ∷ toad ∷ frog ∷ []

-- what stands there after it
abbrev pub jumped : Player → List ℕ
jumped Left = empty ∷ frog ∷ toad ∷ []
jumped Right = frog ∷ toad ∷ empty ∷ []

-- the player's hops of which this cell is the first that changes
abbrev pub hops_at : Player → List ℕ → ℕ → List (List ℕ)
hops_at player row i = placed_at (stepping player) (stepped player) row i ++ placed_at (jumping player) (jumped player) row i

-- those at the cells below this one
abbrev pub hops_below : Player → List ℕ → ℕ → List (List ℕ)
hops_below player row zero = []
hops_below player row (suc i) = hops_below player row i ++ hops_at player row i

-- those at all cells: Left's from the first cell on, and Right's from the last one back
abbrev pub hops_made : Player → List ℕ → List (List ℕ)
hops_made Left row = hops_below Left row (length row)
hops_made Right row = reverse (hops_below Right row (length row))

-- the cells at which the player's steps and jumps begin, in words
pub record AreHopWords (player : Player) (row : List ℕ) (words : HopWords) : Type 0 where
  pub steps : Marks words.steps (stands_at row (stepping player))
  pub jumps : Marks words.jumps (stands_at row (jumping player))

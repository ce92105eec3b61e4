-- Rules placed in a row of cells.
use Rattle.std.specs.Prelude.{ℕ, zero, suc, ◌+◌, ◌≡◌, List, [], ◌∷◌, ◌++◌, length, take, drop, ◌&&◌, Bool, true, false, cond, nat_eq, nat_lt}
use Rattle.std.specs.List.{flat_map, starts_with}
use Rattle.cg_moves.specs.declared.player.Player.{Player}
use Rattle.cg_moves.specs.declared.player.Player.TheVariants.{Left, Right}
use Rattle.cg_moves.specs.Grid.{AreCells}
use Rattle.cg_moves.specs.Rules.{In}
use Rattle.cg_moves.specs.Rising.{rising}
use Rattle.cg_strip.specs.declared.rule.Rule.{Rule}

-- The pattern of the rule stands in the row at this cell and those that follow, and the replacement is written there.
pub record IsPlacedAt (r : Rule) (i : ℕ) (row after : List ℕ) : Type 0 where
  pub before : List ℕ
  pub behind : List ℕ
  pub at : length before ≡ i
  pub stands : row ≡ before ++ (r.pattern ++ behind)
  pub written : after ≡ before ++ (r.replacement ++ behind)

-- a placement of one of the player's rules leads from the row to these cells
pub record IsMove (rules : List Rule) (player : Player) (row after : List ℕ) : Type 0 where
  pub rule : Rule
  pub among : In rule rules
  pub whose : rule.player ≡ player
  pub cell : ℕ
  pub placed : IsPlacedAt rule cell row after

-- ---- all placements

-- the row with the replacement at this cell, if the pattern stands there
abbrev pub placed_at : List ℕ → List ℕ → List ℕ → ℕ → List (List ℕ)
placed_at pattern replacement row i = cond (starts_with nat_eq (drop i row) pattern) ((take i row ++ (replacement ++ drop (i + length pattern) row)) ∷ []) []

-- those at the cells below this one
abbrev pub placed_below : List ℕ → List ℕ → List ℕ → ℕ → List (List ℕ)
placed_below pattern replacement row zero = []
placed_below pattern replacement row (suc i) = placed_below pattern replacement row i ++ placed_at pattern replacement row i

-- those at all cells
abbrev pub all_placed : List ℕ → List ℕ → List ℕ → List (List ℕ)
all_placed pattern replacement row = placed_below pattern replacement row (length row)

abbrev pub is_same_player : Player → Player → Bool
is_same_player Left Left = true
is_same_player Left Right = false
is_same_player Right Left = false
is_same_player Right Right = true

-- all placements of the rule, if it is the player's
abbrev pub placements : Player → List ℕ → Rule → List (List ℕ)
placements player row r = cond (is_same_player r.player player) (all_placed r.pattern r.replacement row) []

-- what the player's moves lead to, in rising order of the bytes, each once
abbrev pub moves_by : List Rule → Player → List ℕ → List (List ℕ)
moves_by rules player row = rising (flat_map (placements player row) rules)

-- ---- on a board

-- the pattern stands in the row at this cell and those that follow
abbrev pub stands_at : List ℕ → List ℕ → ℕ → Bool
stands_at row pattern i = nat_lt i (length row) && starts_with nat_eq (drop i row) pattern

-- the row with the replacement at this cell and those that follow
abbrev pub written : List ℕ → List ℕ → ℕ → List ℕ
written row replacement i = take i row ++ (replacement ++ drop (i + length replacement) row)

-- as many of these symbols in the place of some of them
pub record IsChange (symbols pattern replacement : List ℕ) : Type 0 where
  pub even : length pattern ≡ length replacement
  pub old : AreCells symbols pattern
  pub new : AreCells symbols replacement

abbrev pub IsRuleOver : List ℕ → Rule → Type 0
IsRuleOver symbols r = IsChange symbols r.pattern r.replacement

-- The boards that play can come to from the pieces of a board, where the rules cut: for each piece in order, those of the
-- pieces of the boards that Left's moves on it lead to, those of the boards that Right's moves lead to, then the piece itself,
-- each only where it comes first.
use Rattle.std.specs.Prelude.{◌≡◌, ℕ, zero, suc, List, [], ◌∷◌, ◌++◌}
use Rattle.std.specs.List.{flat_map}
use Rattle.cg_moves.specs.Grid.{Grid}
use Rattle.cg_moves.specs.Reach.{once}
use Rattle.cg_moves.specs.Rules.{GameRules, followers, pieces}

module _ (r : GameRules) where
  -- the boards of so many moves at most, as often as play can come to them
  unfoldable pub piece_reached_within : ℕ → Grid → List Grid
  piece_reached_within zero p = []
  piece_reached_within (suc n) p =
      flat_map (λ q. flat_map (λ s. piece_reached_within n s) (followers r q) ++ (q ∷ [])) (pieces r p)

  -- all of them: no play has more moves than the measure. The law function `reached_pieces` says the rule without the bound
  unfoldable pub all_piece_reached : Grid → List Grid
  all_piece_reached p = piece_reached_within (suc (r.measure p)) p

  abbrev pub IsListOfPieceReached : Grid → Type 0
  IsListOfPieceReached p =
      all_piece_reached p ≡ flat_map (λ q. flat_map all_piece_reached (followers r q) ++ (q ∷ [])) (pieces r p)

  unfoldable pub piece_reach_of : Grid → List Grid
  piece_reach_of p = once (all_piece_reached p)

-- Each move of Clobber is a capture. It stands here since the rules rest on it.
use Rattle.std.proofs.Common.{◌≡◌, refl, ℕ, true, Option, Some, None, List, [], ◌∷◌, length}
use Rattle.cg_moves.specs.declared.player.Player.{Player}
use Rattle.cg_moves.specs.Grid.{Grid}
use Rattle.cg_moves.specs.Rules.{In}
use Rattle.cg_moves.proofs.ForGames.{in-choice, listed-at}
use Rattle.cg_moves.proofs.Members.{in-flat_map}
use Rattle.cg_clobber.specs.declared.way.Way.{Way}
use Rattle.cg_clobber.specs.declared.way.Way.TheVariants.{Up, Down, Back, Forth}
use Rattle.cg_clobber.specs.Moves.{captures, moves_at, moves_of, moves_onto, moves_that_way, next_cell, with_capture}

-- a move takes a stone of the other player
pub onto : (player : Player) (p : Grid) (i : ℕ) (o : Option ℕ) (cells : List ℕ) → In cells (moves_onto player p i o)
    → (j : ℕ) × (o ≡ Some j) × (captures player p i j ≡ true) × (cells ≡ with_capture player p i j)
onto player p i None cells m = absurd m
onto player p i (Some j) cells m =
    let h = in-choice (captures player p i j) cells (with_capture player p i j) m in (j, refl, h.0, h.1)

pub is_capture : (player : Player) (p : Grid) (cells : List ℕ) → In cells (moves_of player p)
    → (i : ℕ) × (way : Way) × (j : ℕ) × (next_cell way p i ≡ Some j) × (captures player p i j ≡ true)
    × (cells ≡ with_capture player p i j)
is_capture player p cells m =
    let (i, k, n) = listed-at (moves_at player p) (length p.cells) cells m in
    let (way, l, o) = in-flat_map (moves_that_way player p i) cells (Up ∷ Down ∷ Back ∷ Forth ∷ []) n in
    let (j, e, f, g) = onto player p i (next_cell way p i) cells o in
    (i, way, j, e, f, g)

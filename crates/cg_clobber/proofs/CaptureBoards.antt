-- Boards after captures, by their words.
use Rattle.std.proofs.Common.{◌≡◌, ℕ, ◌<◌, true, length, sym, subst}
use Rattle.std.specs.Prelude.{codes, slice_set}
use Rattle.cg_moves.specs.declared.planes.Planes.{Planes}
use Rattle.cg_moves.specs.declared.player.Player.{Player}
use Rattle.cg_moves.specs.Grid.{Grid, IsGrid, with_cells}
use Rattle.cg_moves.specs.PlaneBits.{ArePlanes, IsWithIndex, index_of}
use Rattle.cg_moves.proofs.PlaneLemmas.{SetBy}
use Rattle.cg_pieces.proofs.SymbolWords.{two_set}
use Rattle.cg_clobber.specs.Moves.{clobber, empty, own}
use Rattle.cg_clobber.proofs.Placing.{has-empty, has-own, symbols-are}

-- the words in which the one cell got the index of an empty one, and then the other that of the player's stone
pub capture_by : (rows columns : ℕ) (player : Player) (p : Grid) (w one both : Planes) (i j : ℕ) → rows ≡ p.rows
    → columns ≡ p.columns → clobber.has p ≡ true → i < length p.cells → j < length p.cells → IsGrid p
    → ArePlanes p.symbols p.cells w → IsWithIndex w one i (index_of (codes ".xo") empty)
    → IsWithIndex one both j (index_of (codes ".xo") (own player))
    → SetBy rows columns p.symbols both (with_cells p (slice_set p.cells i empty)) j (own player)
capture_by rows columns player p w one both i j high wide has inside below g are put next =
    let e = sym (symbols-are p has) in
    two_set rows columns p w one both i j empty (own player) high wide g are inside below (has-empty p has)
    (has-own player p has) (subst (λ z. IsWithIndex w one i (index_of z empty)) e put)
    (subst (λ z. IsWithIndex one both j (index_of z (own player))) e next)

-- Boards after arrows, by their words.
use Rattle.std.proofs.Common.{◌≡◌, refl, ℕ, ◌<◌, ◌∷◌, [], true, length, ap}
use Rattle.std.specs.Cmp.Lexicographic.{bytes_decides}
use Rattle.cg_moves.specs.declared.planes.Planes.{Planes}
use Rattle.cg_moves.specs.declared.player.Player.TheVariants.{Left, Right}
use Rattle.cg_moves.specs.Grid.{Grid, IsGrid}
use Rattle.cg_moves.specs.PlaneBits.{ArePlanes, IsWithIndex, index_of}
use Rattle.cg_moves.proofs.PlaneLemmas.{SetBy, grid-is, is_grid-by, set_by}
use Rattle.cg_amazons.specs.Amazons.{amazons, blocked, empty, queen}
use Rattle.cg_amazons.proofs.Taken.{has-blocked}

blocked-index : (p : Grid) → amazons.has p ≡ true → index_of p.symbols blocked ≡ 3
blocked-index p has =
    ap (λ z. index_of z blocked) ((bytes_decides p.symbols (empty ∷ queen Left ∷ queen Right ∷ blocked ∷ [])).0 has)

-- the words in which the cell got the index of a blocked one are those of the board with the cell blocked
pub shot_by : (rows columns : ℕ) (p : Grid) (w v : Planes) (i : ℕ) → rows ≡ p.rows → columns ≡ p.columns
    → amazons.has p ≡ true → i < length p.cells → IsGrid p → ArePlanes p.symbols p.cells w → IsWithIndex w v i 3
    → SetBy rows columns p.symbols v p i blocked
shot_by rows columns p w v i high wide has inside g are put =
    rw high (rw wide
    (set_by p.rows p.columns p.symbols w v p i blocked (grid-is p p.symbols w refl g are)
    (is_grid-by p p.symbols w refl g are) inside (has-blocked p has) (rw (blocked-index p has) put)))

-- Domineering cuts boards into joined sets of empty cells. It stands here since the rules rest on it.
use Rattle.std.proofs.Common.{◌≡◌, refl, ℕ, ◌+◌, ◌%◌, ◌<◌, ◌&&◌, true, IsTrue, length, arith}
use Rattle.std.specs.Prelude.{codes}
use Rattle.std.proofs.lemmas.Bool.{lt-ltb, ltb-true}
use Rattle.cg_dyadic.proofs.Truth.{and-both, and-split}
use Rattle.cg_moves.specs.declared.player.Player.{Player}
use Rattle.cg_moves.specs.declared.player.Player.TheVariants.{Left, Right}
use Rattle.cg_moves.specs.Grid.{Grid}
use Rattle.cg_moves.proofs.ForGames.{at-listed, board-like, board-wide, choice-in, listed-where}
use Rattle.cg_pieces.specs.Neighbours.{CutsNeighbours, IsNeighbours, is_below, is_beside, is_next, may_move}
use Rattle.cg_pieces.proofs.GrowingSets.{down-next, forth-next}
use Rattle.cg_pieces.proofs.Lines.{below-is, beside-inside, beside-is, is-below, is-beside}
use Rattle.cg_pieces.proofs.NeighbourSets.{piece-cell-below}
use Rattle.cg_domineering.specs.Moves.{domineering, dominoes, fits, has_other, is_empty, lies, moves_at, other_cell, with_domino}

pub dominoes-are : IsNeighbours dominoes
dominoes-are = record { blank = refl; past = refl }

-- where a domino fits, the player may move on its two cells
pub fits-may : (player : Player) (p : Grid) (k : ℕ) → 0 < p.columns → fits player p k ≡ true
    → may_move dominoes player p k (other_cell player p k) ≡ true
fits-may player p k wide f =
    let both = and-split (has_other player p k && is_empty p.cells k) (is_empty p.cells (other_cell player p k)) f in
    let one = and-split (has_other player p k) (is_empty p.cells k) both.0 in
    go player one.0 one.1 both.1
  where
    go : (player : Player) → IsTrue (has_other player p k) → IsTrue (is_empty p.cells k)
        → IsTrue (is_empty p.cells (other_cell player p k)) → may_move dominoes player p k (other_cell player p k) ≡ true
    go Left other x y =
        let l : ℕ = k + p.columns in
        let below = is-below p.columns k wide in
        let next = down-next p.columns k l below in
        and-both (is_empty p.cells k && is_empty p.cells l) (is_next p.columns k l && is_below p.columns k l)
        (and-both (is_empty p.cells k) (is_empty p.cells l) x y)
        (and-both (is_next p.columns k l) (is_below p.columns k l) next below)
    go Right other x y =
        let l : ℕ = k + 1 in
        let beside = is-beside p.columns k (ltb-true (k % p.columns + 1) p.columns other) in
        let next = forth-next p.columns k l beside in
        and-both (is_empty p.cells k && is_empty p.cells l) (is_next p.columns k l && is_beside p.columns k l)
        (and-both (is_empty p.cells k) (is_empty p.cells l) x y)
        (and-both (is_next p.columns k l) (is_beside p.columns k l) next beside)

-- and where the player may move, a domino fits there
pub record Fitting (player : Player) (p : Grid) (k l : ℕ) : Type 0 where
  pub fits : fits player p k ≡ true
  pub other : l ≡ other_cell player p k

pub may-fits : (player : Player) (p : Grid) (k l : ℕ) → 0 < p.columns → may_move dominoes player p k l ≡ true
    → Fitting player p k l
may-fits player p k l wide t =
    let both = and-split (is_empty p.cells k && is_empty p.cells l) (is_next p.columns k l && lies player (is_below p.columns k l) (is_beside p.columns k l)) t
    in
    let cells = and-split (is_empty p.cells k) (is_empty p.cells l) both.0 in
    let way = and-split (is_next p.columns k l) (lies player (is_below p.columns k l) (is_beside p.columns k l)) both.1 in
    go player cells.0 cells.1 way.1
  where
    inside : IsTrue (is_empty p.cells l) → l < length p.cells
    inside y = piece-cell-below dominoes dominoes-are p l y

    go : (player : Player) → IsTrue (is_empty p.cells k) → IsTrue (is_empty p.cells l)
        → IsTrue (lies player (is_below p.columns k l) (is_beside p.columns k l)) → Fitting player p k l
    go Left x y way =
        let e = below-is p.columns k l way in
        let h = inside y in
        let other : IsTrue (has_other Left p k) = lt-ltb (k + p.columns) (length p.cells) (omega (arith, e, h)) in record {
          fits = and-both (has_other Left p k && is_empty p.cells k) (is_empty p.cells (k + p.columns))
              (and-both (has_other Left p k) (is_empty p.cells k) other x) (rw (← e) y);
          other = e;
        }
    go Right x y way =
        let e = beside-is p.columns k l way in
        let h = beside-inside p.columns k l wide way in
        let other : IsTrue (has_other Right p k) = lt-ltb (k % p.columns + 1) p.columns h in record {
          fits = and-both (has_other Right p k && is_empty p.cells k) (is_empty p.cells (k + 1))
              (and-both (has_other Right p k) (is_empty p.cells k) other x) (rw (← e) y);
          other = e;
        }

pub domineering_cuts : CutsNeighbours dominoes domineering
domineering_cuts = record {
  cut = refl;
  measure = λ p. refl;
  wide = board-wide (codes ".#");
  has = board-like (codes ".#");
  legal_move = λ player p cells has m.
      let (k, i, f, e) = listed-where (fits player p) (with_domino player p) (length p.cells) cells m in record {
        one = k;
        other = other_cell player p k;
        legal = fits-may player p k (board-wide (codes ".#") p has) f;
        is = e;
      };
  move = λ player p k l has t.
      let w = may-fits player p k l (board-wide (codes ".#") p has) t in
      let cells = and-split (is_empty p.cells k && is_empty p.cells l) (is_next p.columns k l && lies player (is_below p.columns k l) (is_beside p.columns k l))
      t in
      let k_empty = (and-split (is_empty p.cells k) (is_empty p.cells l) cells.0).0 in
      rw w.other
      (at-listed (moves_at player p) (length p.cells) (with_domino player p k) k
      (piece-cell-below dominoes dominoes-are p k k_empty) (choice-in (fits player p k) (with_domino player p k) w.fits));
}

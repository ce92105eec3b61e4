-- The law of the rules of Domineering. It stands here since the rules rest on it.
use Rattle.std.proofs.Common.{refl, ◌==◌, ◌&&◌, length, ap, ◌∙◌, arith, length-set}
use Rattle.std.specs.Prelude.{codes, count_by, slice_set}
use Rattle.std.proofs.lemmas.Bool.{and_parts}
use Rattle.cg_moves.specs.Lawful.{AreMoves, IsLawful}
use Rattle.cg_moves.proofs.ForGames.{board-stays, listed-where, set-least, set-lowers}
use Rattle.cg_pieces.proofs.NeighbourCuts.{neighbours-cut}
use Rattle.cg_domineering.proofs.Cuts.{domineering_cuts, dominoes-are}
use Rattle.cg_domineering.specs.Moves.{domineering, dominoes, empty, filled, fits, has_other, is_empty, other_cell, with_domino}

-- a domino fills two cells, of which the first was empty
domineering_moves : AreMoves domineering
domineering_moves = record {
  stays = λ player p cells has m.
      let (i, k, f, e) = listed-where (fits player p) (with_domino player p) (length p.cells) cells m in
      board-stays (codes ".#") p cells has
      (ap length e ∙ length-set (slice_set p.cells i filled) (other_cell player p i) filled ∙ length-set p.cells i filled);
  lowers = λ player p cells has m.
      let (i, k, f, e) = listed-where (fits player p) (with_domino player p) (length p.cells) cells m in
      let both = and_parts (has_other player p i && is_empty p.cells i) (is_empty p.cells (other_cell player p i)) f in
      let one = and_parts (has_other player p i) (is_empty p.cells i) both.0 in
      let a = set-lowers (λ c. c == empty) 0 p.cells i filled refl refl one.1 in
      let b = set-least (λ c. c == empty) 0 (slice_set p.cells i filled) (other_cell player p i) filled (omega arith) in
      let s = ap (count_by (λ c. c == empty)) e in
      omega (arith, a, b, s);
}

pub domineering_lawful : IsLawful domineering
domineering_lawful = record {
  moves = domineering_moves;
  number = omega arith;
  cut = λ e. neighbours-cut dominoes domineering dominoes-are domineering_cuts domineering_moves;
}

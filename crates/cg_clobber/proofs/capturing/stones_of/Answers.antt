use Rattle.std.proofs.Common.{arith, subst, sym}
use Rattle.cg_moves.specs.declared.player.Player.{Player}
use Rattle.cg_moves.specs.Words.{Marks}
use Rattle.cg_clobber.specs.Moves.{has_stone, other, own}
use Rattle.cg_pieces.proofs.Frames.{wide-grid}
use Rattle.cg_clobber.proofs.StoneWords.{o-marks, x-marks}
use Rattle.cg_clobber.proofs.capturing.stones_of.Goals as goal

pub returns-in-Left : goal.returns-in-Left
returns-in-Left c =
    let p = c.args.board.now in
    let w = c.planes-planes.result in
    let g = c.planes-planes.ensures.grid in
    let are = c.planes-planes.ensures.planes in
    let P : Player → Type 0 = λ q. Marks w.a (λ i. has_stone p.cells i (own q)) in
    let Q : Player → Type 0 = λ q. Marks w.b (λ i. has_stone p.cells i (other q)) in record {
      wide = wide-grid p g;
      columns = c.columns-columns.ensures.value;
      own = subst P (sym c.in-Left.is) (x-marks p c.requires.symbols g w are);
      others = subst Q (sym c.in-Left.is) (o-marks p c.requires.symbols g w are);
      first = c.requires.first;
      own_fits = omega (arith, c.planes-planes.type_inv);
      others_fit = omega (arith, c.planes-planes.type_inv);
      first_fits = omega (arith, c.ranges.first_column.fits);
    }

pub returns-in-Right : goal.returns-in-Right
returns-in-Right c =
    let p = c.args.board.now in
    let w = c.planes-planes.result in
    let g = c.planes-planes.ensures.grid in
    let are = c.planes-planes.ensures.planes in
    let P : Player → Type 0 = λ q. Marks w.b (λ i. has_stone p.cells i (own q)) in
    let Q : Player → Type 0 = λ q. Marks w.a (λ i. has_stone p.cells i (other q)) in record {
      wide = wide-grid p g;
      columns = c.columns-columns.ensures.value;
      own = subst P (sym c.in-Right.is) (o-marks p c.requires.symbols g w are);
      others = subst Q (sym c.in-Right.is) (x-marks p c.requires.symbols g w are);
      first = c.requires.first;
      own_fits = omega (arith, c.planes-planes.type_inv);
      others_fit = omega (arith, c.planes-planes.type_inv);
      first_fits = omega (arith, c.ranges.first_column.fits);
    }

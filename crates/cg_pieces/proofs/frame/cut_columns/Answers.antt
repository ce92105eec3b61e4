use Rattle.std.proofs.Common.{◌≡◌, ◌+◌, ◌-◌, ◌*◌, arith, bit_and, subst}
use Rattle.std.proofs.lemmas.Nat.{and_le_r}
use Rattle.cg_moves.proofs.WordBits.{shifted_on, shifted_on_first}
use Rattle.cg_pieces.proofs.GrowingSets.{moved_back, moved_on}
use Rattle.cg_pieces.proofs.RowWords.{IsLater, cut-more, first-later, first-row, later-row, row-few}
use Rattle.cg_pieces.proofs.frame.cut_columns.Goals as goal

pub loop-row-init : goal.loop-row-init
loop-row-init c =
    let rest = moved_back c.args.word (c.args.frame.top * c.args.columns + c.args.frame.left) in
    let later = first-later c.args.word c.args.columns c.args.frame in
    record {
      later = omega arith;
      found = first-row c.args.word c.args.columns c.args.frame c.requires rest c.all_cells-row_cells.result
          (let most = and_le_r rest c.all_cells-row_cells.result in omega (arith, most, c.all_cells-row_cells.type_inv)) later c.all_cells-row_cells.ensures;
      rest = let e : 0 ≡ 1 - 1 = omega arith in subst (λ r. IsLater c.args.word c.args.columns c.args.frame r rest) e later;
    }

pub loop-row-preserved : goal.loop-row-preserved
loop-row-preserved c =
    let t = c.loop-row-test.true in
    let a = c.loop-row.auto.row-end in
    let row = c.loop-row.row in
    let later = c.loop-row.invariant.later in
    let on = row * c.args.frame.columns in
    let rest = moved_back c.loop-row.rest c.args.columns in
    let kept = bit_and rest c.all_cells-row_cells.result in
    let is = later-row c.args.word c.args.columns c.args.frame row c.loop-row.rest later c.loop-row.invariant.rest in
    let few = row-few c.args.word c.args.columns c.args.frame c.requires row (omega (arith, t, a)) in
    record {
      later = omega (arith, later);
      found = cut-more c.args.word c.args.columns c.args.frame c.requires row c.loop-row.found rest
          c.all_cells-row_cells.result (moved_on kept on) (omega (arith, t, a)) (omega arith) c.loop-row.invariant.found is
          c.all_cells-row_cells.ensures (λ i l. shifted_on_first kept on i l few) (shifted_on kept on);
      rest = let e : row ≡ (row + 1) - 1 = omega arith in
          subst (λ r. IsLater c.args.word c.args.columns c.args.frame r rest) e is;
    }

use Rattle.std.proofs.Common.{arith}
use Rattle.cg_moves.proofs.ColumnWords.{all-rows, no-rows, one-row, twice-rows}
use Rattle.cg_moves.proofs.words.first_column.Goals as goal

pub returns-then-size-eq0 : goal.returns-then-size-eq0
returns-then-size-eq0 c = no-rows c.args.columns _ c.if-size-eq0.true

pub loop-height-init : goal.loop-height-init
loop-height-init c = record {
  column = one-row c.args.columns c.requires.some;
  some = c.requires.some;
}

pub loop-height-preserved : goal.loop-height-preserved
loop-height-preserved c =
    let some = c.loop-height.invariant.some in record {
      column = twice-rows c.args.columns c.loop-height.cells c.loop-height.height c.moved_on-cells.result
          c.loop-height.invariant.column c.moved_on-cells.ensures.first c.moved_on-cells.ensures.others;
      some = omega (arith, some);
    }

pub returns : goal.returns
returns c =
    all-rows c.args.columns _ c.loop-height.cells c.loop-height.height c.all_cells.result c.requires.few
    c.loop-height-test.false c.loop-height.invariant.column c.all_cells.ensures

use Rattle.std.proofs.Common.{◌*◌, arith}
use Rattle.cg_amazons.proofs.CellBits.{inner_marks, wide}
use Rattle.cg_amazons.proofs.shape.Shape.of.Goals as goal

pub returns-clause-shape : goal.returns-clause-shape
returns-clause-shape c = record {
  some = wide c.args.rows c.args.columns c.requires.some;
  few = c.requires.few;
  all = c.all_cells-all.ensures;
  inner = inner_marks c.args.columns (c.args.rows * c.args.columns) c.all_cells-all.result c.first_column-first.result
      (omega (arith, c.all_cells-all.type_inv)) (omega (arith, c.first_column-first.type_inv)) c.all_cells-all.ensures
      c.first_column-first.ensures;
}

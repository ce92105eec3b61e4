use Rattle.std.proofs.Common.{◌*◌}
use Rattle.cg_amazons.proofs.CellBits.{down_cell}
use Rattle.cg_amazons.proofs.shape.Shape.down.Goals as goal

pub returns : goal.returns
returns c cell =
    down_cell c.args.self.columns (c.args.self.rows * c.args.self.columns) c.args.at c.moved_on-moved.result c.args.self.all
    cell c.requires.few c.requires.all c.moved_on-moved.ensures.first c.moved_on-moved.ensures.others

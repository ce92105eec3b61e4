use Rattle.std.proofs.Common.{◌*◌}
use Rattle.cg_amazons.proofs.CellBits.{back_cell}
use Rattle.cg_amazons.proofs.shape.Shape.back.Goals as goal

pub returns : goal.returns
returns c cell =
    back_cell c.args.self.columns (c.args.self.rows * c.args.self.columns) c.args.at c.args.self.inner c.moved_back.result cell
    c.requires.some c.requires.inner c.moved_back.ensures

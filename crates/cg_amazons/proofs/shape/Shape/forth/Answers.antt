use Rattle.cg_amazons.proofs.CellBits.{forth_cell}
use Rattle.cg_amazons.proofs.shape.Shape.forth.Goals as goal

pub returns : goal.returns
returns c cell =
    forth_cell c.args.self.rows c.args.self.columns c.args.at c.moved_on-moved.result c.args.self.inner cell c.requires.some
    c.requires.few c.requires.inner c.moved_on-moved.ensures.first c.moved_on-moved.ensures.others

use Rattle.cg_pieces.proofs.OpenWords.{field-is}
use Rattle.cg_pieces.proofs.field.field_of.Goals as goal

pub returns : goal.returns
returns g c =
    field-is (g.N.NeighbourRules.neighbours c.args.rules.now) (g.met.N.NeighbourRules.lawful c.args.rules.now) c.args.board.now
    _ c.columns.ensures.grid c.columns.ensures.value c.requires.first c.requires.cells

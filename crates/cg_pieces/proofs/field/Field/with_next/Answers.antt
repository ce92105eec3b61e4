use Rattle.cg_pieces.proofs.GrowingSets.{next-set}
use Rattle.cg_pieces.proofs.field.Field.with_next.Goals as goal

pub returns : goal.returns
returns c =
    next-set c.args.self c.args.set c.with_column-more.result c.with_row.result c.with_column-more.ensures c.with_row.ensures

use Rattle.std.proofs.Common.{refl, arith}
use Rattle.cg_pieces.proofs.GrowingSets.{column-set}
use Rattle.cg_pieces.proofs.field.Field.with_column.Goals as goal

pub returns : goal.returns
returns c =
    column-set c.args.self c.args.set c.requires.field c.requires.set (omega (arith, c.well_formed)) _ refl

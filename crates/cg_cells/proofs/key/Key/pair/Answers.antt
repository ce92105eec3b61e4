use Rattle.std.proofs.Common.{arith}
use Rattle.cg_cells.specs.declared.key.KeyParts.TheVariants.{Pair}
use Rattle.cg_cells.proofs.Layouts.{parts_of_word}
use Rattle.cg_cells.proofs.key.Key.pair.Goals as goal

pub returns-clause-parts : goal.returns-clause-parts
returns-clause-parts c =
    let a = c.field_of.ensures.value in
    let b = c.field_of-2.ensures.value in
    parts_of_word (Pair c.args.low c.args.high) _ c.requires (c.field_of-2.ensures.link, c.field_of.ensures.link) (omega arith)

use Rattle.std.proofs.Common.{arith}
use Rattle.cg_cells.specs.declared.key.KeyParts.TheVariants.{Chunk}
use Rattle.cg_cells.proofs.Layouts.{parts_of_word}
use Rattle.cg_cells.proofs.key.Key.chunk.Goals as goal

pub returns-clause-parts : goal.returns-clause-parts
returns-clause-parts c =
    let a = c.field_of.ensures.value in
    parts_of_word (Chunk c.args.content c.args.next) _ tt (c.ranges.content.fits, c.field_of.ensures.link) (omega arith)

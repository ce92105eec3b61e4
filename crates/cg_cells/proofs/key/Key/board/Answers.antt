use Rattle.std.proofs.Common.{arith}
use Rattle.cg_cells.specs.declared.key.KeyParts.TheVariants.{Board}
use Rattle.cg_cells.proofs.Layouts.{parts_of_word}
use Rattle.cg_cells.proofs.key.Key.board.Goals as goal

pub returns-clause-parts : goal.returns-clause-parts
returns-clause-parts c =
    let a = c.field_of.ensures.value in
    parts_of_word (Board c.args.number c.args.rows c.args.columns c.args.first) _ (c.requires.number.0, c.requires.number.1, c.requires.rows.0, c.requires.rows.1, c.requires.columns.0, c.requires.columns.1) c.field_of.ensures.link (omega arith)

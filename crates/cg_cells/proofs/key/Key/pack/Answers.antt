use Rattle.std.proofs.Common.{sym}
use Rattle.cg_cells.proofs.Layouts.{parts_of_word}
use Rattle.cg_cells.proofs.key.Key.pack.Goals as goal

pub returns-clause-parts : goal.returns-clause-parts
returns-clause-parts c = parts_of_word c.args.parts _ c.requires c.word.ensures.types (sym c.word.ensures.value)

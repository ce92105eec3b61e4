use Rattle.std.proofs.Common.{◌+◌, sym, ap, ◌∙◌}
use Rattle.cg_cells.specs.Views.{cells_of}
use Rattle.cg_shared.proofs.Allowed.{note_allowed}
use Rattle.cg_shared.proofs.steps.note.Goals as goal

pub compare_exchange-requires : goal.compare_exchange-requires
compare_exchange-requires g c = (c.requires.table.0, c.requires.table.1, note_allowed g.F.Facts.meaning g.met.F.Facts.lawful c.args.shared.now.key _ _ _ c.requires.live c.args.cell c.args.value c.requires.sized.1 c.requires.due.0 c.requires.due.1 c.requires.known c.requires.due.2 c.args.size c.requires.sized.0)

pub returns-clause-view : goal.returns-clause-view
returns-clause-view g c = (c.compare_exchange.ensures.2.1 c.args.cell c.args.value (ap (λ n. 1 + n + c.args.cell) (c.requires.sized.0 ∙ sym (ap cells_of c.requires.sized.1))) (λ i. c.args.value + 1)).0

pub returns-clause-sure : goal.returns-clause-sure
returns-clause-sure g c = (c.compare_exchange.ensures.2.1 c.args.cell c.args.value (ap (λ n. 1 + n + c.args.cell) (c.requires.sized.0 ∙ sym (ap cells_of c.requires.sized.1))) (λ i. c.args.value + 1)).1

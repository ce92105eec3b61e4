use Rattle.std.proofs.Common.{[]}
use Rattle.cg_cells.proofs.Plains.{marked_has}
use Rattle.cg_cells.proofs.Saturates.{known_stands, stands_known}
use Rattle.cg_cells.proofs.laws.what_stands.Goals as goal

pub returns-clause-known : goal.returns-clause-known
returns-clause-known g c = λ keys. known_stands g.F.Facts.meaning g.met.F.Facts.lawful (record { keys = keys; values = []; spare = 0 })

pub returns-clause-stands : goal.returns-clause-stands
returns-clause-stands g c = λ keys. stands_known g.F.Facts.meaning g.met.F.Facts.lawful (record { keys = keys; values = []; spare = 0 })

pub returns-clause-noted : goal.returns-clause-noted
returns-clause-noted g c = marked_has

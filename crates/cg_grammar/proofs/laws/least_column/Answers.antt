use Rattle.cg_grammar.proofs.InOrder.{line_order}
use Rattle.cg_grammar.proofs.LeastFault.{row_least}
use Rattle.cg_grammar.proofs.WholeFault.{whole_least}
use Rattle.cg_grammar.proofs.laws.least_column.Goals as goal

pub returns-clause-least : goal.returns-clause-least
returns-clause-least c = row_least

pub returns-clause-in_order : goal.returns-clause-in_order
returns-clause-in_order c = line_order

pub returns-clause-whole : goal.returns-clause-whole
returns-clause-whole c = whole_least

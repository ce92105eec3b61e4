use Rattle.cg_cells.proofs.Orders.{none_first, set_there, found_first, new_first}
use Rattle.cg_cells.proofs.laws.order_of_claims.Goals as goal

pub returns-clause-none : goal.returns-clause-none
returns-clause-none c = none_first

pub returns-clause-found : goal.returns-clause-found
returns-clause-found c = λ keys n key id A is_key e. (found_first keys n key id A is_key e, set_there keys id key e)

pub returns-clause-new : goal.returns-clause-new
returns-clause-new c = new_first

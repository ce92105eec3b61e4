use Rattle.cg_canon.proofs.InternerHandles.{apart_none}
use Rattle.cg_canon.proofs.interner.Interner.new.Goals as goal

pub returns-clause-apart : goal.returns-clause-apart
returns-clause-apart c = apart_none _ _ _ c.new-3.ensures.items c.new-4.ensures

use Rattle.std.proofs.Common.{sym, refl}
use Rattle.cg_query.specs.Trees.{trees_in}
use Rattle.cg_query.proofs.TreeOf.{empty_exactly}
use Rattle.cg_query.proofs.expr.Exprs.is_empty.Goals as goal

pub returns : goal.returns
returns c = empty_exactly (trees_in c.args.self.now) c.len.result _ refl (sym c.len.ensures)

use Rattle.std.proofs.Common.{sym, ◌∙◌}
use Rattle.cg_moves.proofs.PlaneLemmas.{index-found}
use Rattle.cg_moves.proofs.planes.index_in.Goals as goal

pub unreachable-requires : goal.unreachable-requires
unreachable-requires c =
    index-found c.args.symbols.now c.args.symbol c.requires.symbol (sym c.place_in.ensures ∙ c.in_default.is)

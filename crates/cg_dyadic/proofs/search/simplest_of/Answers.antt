use Rattle.std.proofs.Common.{◌∙◌}
use Rattle.std.proofs.lemmas.Int.{to_z-of_z}
use mir.Syntax.{w128}
use Rattle.cg_dyadic.proofs.Coarser.{found_nearest}
use Rattle.cg_dyadic.proofs.search.simplest_of.Goals as goal

pub returns : goal.returns
returns c =
    found_nearest c.coarsest-scale.result c.args.low c.args.high _ _ _ c.coarsest-scale.ensures c.low_at.ensures c.high_at.ensures
    (to_z-of_z w128 c.nearest.result (record { sfits = c.nearest.type_inv }) ∙ c.nearest.ensures)

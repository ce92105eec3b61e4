use Rattle.std.proofs.Common.{to_z, of_z}
use mir.Syntax.{w128}
use Rattle.cg_dyadic.proofs.Compare.{number_cmp-through}
use Rattle.cg_dyadic.proofs.Wides.{le-words}
use Rattle.cg_dyadic.proofs.wide.Wide.compare.Goals as goal

pub returns-clause-order : goal.returns-clause-order
returns-clause-order c =
    let x = c.args.self in let y = c.args.other in
    let a = c.units in let b = c.units-2 in
    number_cmp-through x y (to_z w128 (of_z w128 c.units.result)) (to_z w128 (of_z w128 c.units-2.result)) c.cmp.result
    (le-words x y c.units.result c.units-2.result a.ensures.value b.ensures.value a.ensures.small b.ensures.small a.ensures.in_range b.ensures.in_range)
    (le-words y x c.units-2.result c.units.result b.ensures.value a.ensures.value b.ensures.small a.ensures.small b.ensures.in_range a.ensures.in_range)
    c.cmp.ensures

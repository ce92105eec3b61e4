use Rattle.std.proofs.Common.{◌≡◌, ap, Ok, rules}
use Rattle.cg_grammar.specs.Braces.{side_trees}
use Rattle.cg_grammar.specs.Found.{Found}
use Rattle.cg_query.specs.Trees.{trees_in}
use Rattle.cg_reader.specs.Views.{side_found}
use Rattle.cg_reader.proofs.OneRun.{two_sides}
use Rattle.cg_reader.proofs.build.of_two_sides.Goals as goal

pub returns : goal.returns
returns c =
    let l : trees_in c.of-lefts.result ≡ side_trees (side_found c.args.left) = search rules in
    let r : trees_in c.of-rights.result ≡ side_trees (side_found c.args.right) = search rules in
    λ bars some most column. ap (λ (x : Found). Ok x) (two_sides bars column (side_found c.args.left) (side_found c.args.right) c.of-lefts.result
    c.of-rights.result c.earlier-fault.result some most l r (search rules))

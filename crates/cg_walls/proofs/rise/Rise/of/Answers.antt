use mir.Syntax.{w128}
use Rattle.std.proofs.lemmas.Int.{to_z-of_z}
use Rattle.cg_walls.proofs.rise.Rise.of.Goals as goal

pub returns-clause-start : goal.returns-clause-start
returns-clause-start c = to_z-of_z w128 c.args.start c.ranges.start

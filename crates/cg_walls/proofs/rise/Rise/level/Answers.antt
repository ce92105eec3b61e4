use Rattle.std.proofs.lemmas.Int.{to_z-of_z}
use mir.Syntax.{w128}
use Rattle.std.proofs.Common.{◌∙◌}
use Rattle.cg_walls.proofs.Rising.{level-value, level-wall}
use Rattle.cg_walls.proofs.rise.Rise.level.Goals as goal

pub returns-clause-wall : goal.returns-clause-wall
returns-clause-wall c = level-wall c.of.result c.args.value (c.of.ensures.start ∙ to_z-of_z w128 c.args.value c.ranges.value) c.of.ensures.first
    (c.of.ensures.turns ∙ c.new.ensures.items) c.requires.low c.requires.high

pub returns-clause-value : goal.returns-clause-value
returns-clause-value c = level-value c.of.result c.args.value (c.of.ensures.start ∙ to_z-of_z w128 c.args.value c.ranges.value) c.of.ensures.first
    (c.of.ensures.turns ∙ c.new.ensures.items)

use Rattle.std.proofs.Common.{◌∙◌}
use Rattle.cg_walls.proofs.Walking.{at-start}
use Rattle.cg_walls.proofs.Words.{start_word}
use Rattle.cg_walls.proofs.place.Place.start.Goals as goal

pub returns : goal.returns
returns c = at-start c.args.rise.now c.of.result (c.of.ensures.value ∙ start_word c.args.rise.now c.requires) c.of.ensures.up
    c.of.ensures.passed c.requires

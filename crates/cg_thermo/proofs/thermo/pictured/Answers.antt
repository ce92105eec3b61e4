use Rattle.cg_thermo.proofs.Picturing.{value_small}
use Rattle.cg_thermo.proofs.thermo.pictured.Goals as goal

pub of_units-mean-requires : goal.of_units-mean-requires
of_units-mean-requires c = value_small c.args.wall_pair.now.right c.args.wall_pair.now.end c.value.result c.requires.right c.value.ensures

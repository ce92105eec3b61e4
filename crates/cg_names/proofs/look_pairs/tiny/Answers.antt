use Rattle.cg_names.specs.Named.{first_number, second_number}
use Rattle.cg_names.proofs.Looks.{one_same, tiny-other}
use Rattle.cg_names.proofs.look_pairs.tiny.Goals as goal

pub returns-in-None : goal.returns-in-None
returns-in-None c z p e =
    c.in-None.ensures (first_number c.args.miny z) (second_number c.args.miny z)
    (one_same _ _ (tiny-other c.args.miny z _ _ e))

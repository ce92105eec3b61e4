use Rattle.std.proofs.Common.{refl, to_z, of_z, ◌∙◌}
use Rattle.std.proofs.lemmas.Int.{to_z-of_z}
use mir.Syntax.{w128}
use Rattle.cg_dyadic.proofs.Results.{fault_holds, sign_of}
use Rattle.cg_dyadic.proofs.Dyadic.make.Goals as goal

pub returns-in-None : goal.returns-in-None
returns-in-None c = fault_holds _ c.args.num c.unsigned_abs.result c.args.exp c.lowest-size.result.0 c.lowest-size.result.1 _
    (sign_of c.args.num (to_z w128 (of_z w128 c.args.num)) c.unsigned_abs.result (to_z-of_z w128 c.args.num c.ranges.num) c.unsigned_abs.ensures.value)
    c.lowest-size.ensures.same c.lowest-size.ensures.lowest
    (to_z-of_z w128 c.signed.result (record { sfits = c.signed.type_inv }) ∙ c.signed.ensures) refl (c.in-None.ensures.none refl)

use Rattle.std.proofs.Common.{◌≡◌, ◌∙◌, sym, refl, ap, to_z, of_z}
use Rattle.std.proofs.lemmas.Int.{to_z-of_z}
use mir.Syntax.{w128}
use Rattle.cg_dyadic.specs.Number.{exp_of, num_of}
use Rattle.cg_dyadic.specs.Units.{units}
use Rattle.cg_dyadic.proofs.Gap.{small_around, units_is}
use Rattle.cg_dyadic.proofs.search.units.Goals as goal

value : (c : goal.After-scaled) → to_z w128 (of_z w128 c.scaled.result) ≡ units 41 c.args.x
value c = to_z-of_z w128 c.scaled.result (record { sfits = c.scaled.type_inv })
    ∙ units_is c.args.x (num_of c.args.x) c.scaled.result c.x.inside.exp refl (ap exp_of (sym c.x.view_is) ∙ c.x.invariant.exp_is) c.scaled.ensures.value

pub returns-clause-is : goal.returns-clause-is
returns-clause-is c = value c

pub returns-clause-small : goal.returns-clause-small
returns-clause-small c = small_around c.args.x _ (value c) c.scaled.ensures.in_range

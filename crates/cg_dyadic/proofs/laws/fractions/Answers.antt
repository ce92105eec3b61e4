use Rattle.cg_dyadic.proofs.Fractions.{fraction-own, fraction-ratio, fraction-unique}
use Rattle.cg_dyadic.proofs.laws.fractions.Goals as goal

pub returns : goal.returns
returns c = record { exists = fraction-ratio; unique = fraction-unique; own_terms = fraction-own }

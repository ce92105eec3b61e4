use Rattle.std.proofs.lemmas.Bool.Decides.{Decides-eqb}
use Rattle.std.proofs.lemmas.Slice.Eq.{slice_eq-Decides}
use Rattle.cg_names.proofs.look_star.are_same.Goals as goal

pub returns-clause-same : goal.returns-clause-same
returns-clause-same c t = (slice_eq-Decides Decides-eqb c.args.some.now c.args.others.now c.eq.result c.eq.ensures).0 t

pub returns-clause-other : goal.returns-clause-other
returns-clause-other c differ e =
    let equal = (slice_eq-Decides Decides-eqb c.args.some.now c.args.others.now c.eq.result c.eq.ensures).1 e in
    absurd cc

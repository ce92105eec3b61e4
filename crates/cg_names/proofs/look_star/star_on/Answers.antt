use Rattle.std.proofs.Common.{ap}
use Rattle.cg_arena.specs.Arena.{games_of}
use Rattle.cg_names.proofs.Indexes.{same_indexes}
use Rattle.cg_names.proofs.Stars.{no_star_behind, others_behind, star_behind}
use Rattle.cg_names.proofs.look_star.star_on.Goals as goal

pub returns-in-None : goal.returns-in-None
returns-in-None c rs is = no_star_behind _ rs _ _ is c.in-None.ensures

pub returns-then-are_same : goal.returns-then-are_same
returns-then-are_same c rs is =
    let (n, e) = c.in-Some.ensures in
    star_behind _ rs _ _ is c.in-Some.base n e (ap (games_of c.args.arena.now) (c.are_same.ensures.same c.if-are_same.true))

pub returns-else-are_same : goal.returns-else-are_same
returns-else-are_same c rs is = others_behind _ rs _ _ is (λ e. c.are_same.ensures.other c.if-are_same.false
    (same_indexes c.args.arena.now c.requires.apart _ _ c.requires.lefts c.requires.others e))

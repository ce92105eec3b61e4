use Rattle.std.proofs.Common.{◌≡◌, List, ℕ, arith, length, min, subst, sym}
use Rattle.cg_arena.specs.Arena.{games_of}
use Rattle.cg_arena.specs.Terms.{NoneComparable}
use Rattle.cg_arena.proofs.Antichains.{own_apart, second_apart}
use Rattle.cg_arena.proofs.owning.own_undominated.Goals as goal

pub undominated_of_terms-requires-clause-second_apart : goal.undominated_of_terms-requires-clause-second_apart
undominated_of_terms-requires-clause-second_apart c =
    let gs = c.args.arena.now in
    let options = c.chosen-options.result.now in
    let P : List ℕ → Type 0 = λ z. NoneComparable (games_of gs z) in
    let count : c.min-count.result ≡ min c.own.result (length options) = omega (arith, c.min-count.ensures) in
    subst P (sym c.split_at.ensures.back) (second_apart gs c.own.result c.min-count.result options count
    (own_apart gs c.args.first_term c.in-Some.first c.args.left c.args.lefts.now c.args.rights.now options c.own.result c.in-Some.is
    c.requires.terms c.chosen-options.ensures c.own.ensures).second)

use Rattle.std.proofs.Common.{arith, refl, [], ◌∷◌, ◌++◌}
use Rattle.cg_names.specs.Named.{pair_positions, tiny_form}
use Rattle.cg_names.proofs.PairSteps.{length-one_more, tiny_positions}
use Rattle.cg_names.proofs.Steps.{given_from, given_positions}
use Rattle.cg_names.proofs.pairs.tiny_of.Goals as goal

pub returns-then-limit-pair_count : goal.returns-then-limit-pair_count
returns-then-limit-pair_count g c =
    let n = length-one_more (pair_positions c.first_of-first.result c.second_of-second.result)
    (tiny_form c.args.miny c.args.x) c.pair_count.result c.pair_count.ensures in
    given_positions _ (tiny_form c.args.miny c.args.x) (pair_positions c.first_of-first.result
    c.second_of-second.result ++ (tiny_form c.args.miny c.args.x ∷ []))
    (tiny_positions c.args.miny c.args.x c.first_of-first.result c.second_of-second.result c.first_of-first.ensures
    c.second_of-second.ensures) (omega (arith, n, c.if-limit-pair_count.true, c.limit.ensures))

pub returns : goal.returns
returns g c =
    let n = length-one_more (pair_positions c.first_of-first.result c.second_of-second.result)
    (tiny_form c.args.miny c.args.x) c.pair_count.result c.pair_count.ensures in
    let form = tiny_form c.args.miny c.args.x in
    given_from _ _ _ form form
    (pair_positions c.first_of-first.result c.second_of-second.result ++ (form ∷ [])) refl
    (tiny_positions c.args.miny c.args.x c.first_of-first.result c.second_of-second.result c.first_of-first.ensures
    c.second_of-second.ensures)
    (omega (arith, n, c.if-limit-pair_count.false, c.limit.ensures)) c.make_tiny.ensures

-- A sum that is made item by item, and kept.
use Rattle.std.proofs.Common.{sym}
use Rattle.cg_nodes.proofs.Later.{is_game_later}
use Rattle.cg_canon.specs.Works.{work_state}
use Rattle.cg_canon.proofs.MadeSteps.{passed}
use Rattle.cg_sum.proofs.AgainSums.{kept_items}
use Rattle.cg_sum.proofs.SumEnds.{gives_as, gives_handed}
use Rattle.cg_sum.proofs.addition.new_sum.Goals as goal

pub returns-in_err-sum : goal.returns-in_err-sum
returns-in_err-sum g c =
    let given = c.in_err-sum.ensures in gives_handed _ c.from_residual.ensures.1 given.made.refused given.made.keeps given.more

pub keep_sum-requires-clause-items : goal.keep_sum-requires-clause-items
keep_sum-requires-clause-items g c =
    let W = work_state g.S.CellStore.state in
    let w = W c.args.work.now in
    let v = W c.found_sum.new.work in
    let made = c.found_sum.ensures.made in
    kept_items w v made.keeps c.args.a c.args.b c.spent-before.result c.requires.a c.requires.b c.spent-before.ensures.value
    (passed w v _ c.found_sum.result _ c.in_ok-sum.was made)

pub keep_sum-requires-clause-b : goal.keep_sum-requires-clause-b
keep_sum-requires-clause-b g c =
    let W = work_state g.S.CellStore.state in
    is_game_later (W c.args.work.now) (W c.found_sum.new.work) c.found_sum.ensures.made.keeps.known c.args.b c.requires.b

pub returns-in_err-keep_sum : goal.returns-in_err-keep_sum
returns-in_err-keep_sum g c =
    let given = c.found_sum.ensures in
    rw c.keep_sum.ensures (gives_handed _ c.from_residual-in_err-keep_sum.ensures.1 tt given.made.keeps given.more)

pub returns : goal.returns
returns g c = rw c.keep_sum.ensures (gives_as _ _ _ _ _ _ (sym c.in_ok-sum.was) c.found_sum.ensures)

-- What the item costs is kept when it is first made.
use Rattle.std.proofs.Common.{arith}
use Rattle.cg_canon.proofs.MadeSteps.{passed}
use Rattle.cg_canon.specs.Works.{work_state}
use Rattle.cg_sum.proofs.FirstSteps.{first_costs, holds_first_later}
use Rattle.cg_sum.proofs.firsts.nimber_item.Goals as goal

pub returns-then-charged_again-clause-holds : goal.returns-then-charged_again-clause-holds
returns-then-charged_again-clause-holds g c =
    let W = work_state g.S.CellStore.state in
    holds_first_later (W c.args.work.now) (W c.charged_again.new.work) c.charged_again.ensures.keeps.known _
    c.requires.holds

pub returns-in_ok-push-clause-holds : goal.returns-in_ok-push-clause-holds
returns-in_ok-push-clause-holds g c =
    first_costs g.S.CellStore.state c.args.work.now c.charged_again.new.work c.first_item.new.work c.args.nimbers.now _ _ _ _
    c.requires.holds (c.charged_again.ensures.none c.if-charged_again.false) c.in_ok-first_item.ensures.first
    c.in_ok-first_item.ensures.known (let e = c.len.ensures in let t = c.if-len-n.true in omega arith) c.in_ok-push.ensures.items c.spent-before.ensures.value
    c.spent.ensures.value (passed _ _ _ c.first_item.result _ c.in_ok-first_item.was c.first_item.ensures.made)

use Rattle.std.proofs.Common.{◌≡◌, arith, subst}
use Rattle.cg_canon.specs.Works.{work_state}
use Rattle.cg_sum.specs.Firsts.{IsPair}
use Rattle.cg_sum.specs.declared.pair.NimberPair.{NimberPair}
use Rattle.cg_sum.proofs.FirstSteps.{pair_known}
use Rattle.cg_sum.proofs.pair.nimber_pair.Goals as goal

pub returns-clause-pair : goal.returns-clause-pair
returns-clause-pair g c x e =
    let W = work_state g.S.CellStore.state in
    let v = W c.nimbers_to-2.new.work in
    let least = c.if-first-second.false in
    let count = c.in_ok-handles-2.ensures.count in
    let same : c.pair_of-2.result ≡ x = cc in
    let P : NimberPair → Type 0 = λ z. IsPair v c.args.a c.args.b z in
    subst P same (pair_known (W c.args.work.now) v c.nimbers_to-2.ensures.spends.known c.args.a c.args.b c.in-Some.first
    c.in-Some-nimber_of.second c.pair_of-2.result c.in-Some.ensures c.in-Some-nimber_of.ensures c.in_ok-handles-2.handles.items
    c.in_ok-handles-2.ensures.first count (omega arith) c.pair_of-2.ensures.first c.pair_of-2.ensures.second c.pair_of-2.ensures.handles
    c.pair_of-2.ensures.costs)

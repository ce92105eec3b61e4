-- Two nimbers, or other games: what was read before has made nothing.
use Rattle.cg_canon.specs.Works.{work_state}
use Rattle.cg_sum.proofs.PairSteps.{read_gives}
use Rattle.cg_sum.proofs.addition.found_sum.Goals as goal

pub returns-in-Some : goal.returns-in-Some
returns-in-Some g c =
    let W = work_state g.S.CellStore.state in
    read_gives (W c.args.work.now) (W c.nimber_pair.new.work) _ c.nimber_pair.ensures.spends c.args.a c.args.b c.requires.a
    c.requires.b c.nimber_sum.result c.nimber_sum.ensures

pub returns-in-None : goal.returns-in-None
returns-in-None g c =
    let W = work_state g.S.CellStore.state in
    read_gives (W c.args.work.now) (W c.nimber_pair.new.work) _ c.nimber_pair.ensures.spends c.args.a c.args.b c.requires.a
    c.requires.b c.other_sum.result c.other_sum.ensures

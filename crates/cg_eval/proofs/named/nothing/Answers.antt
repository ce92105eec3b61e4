use Rattle.cg_canon.specs.Works.{work_state}
use Rattle.cg_eval.proofs.Expressions.{zero_gives}
use Rattle.cg_eval.proofs.named.nothing.Goals as goal

pub returns : goal.returns
returns g c =
    zero_gives (work_state g.S.CellStore.state c.args.work.now) (work_state g.S.CellStore.state c.number_item.new.work)
    c.zero.result c.number_item.result c.widen.result c.widen.ensures c.zero.ensures
    (record { game = c.number_item.ensures.game; made = c.number_item.ensures.made; more = c.number_item.ensures.more })

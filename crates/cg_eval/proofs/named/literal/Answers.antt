use Rattle.cg_canon.specs.Works.{work_state}
use Rattle.cg_eval.proofs.Expressions.{literal_gives}
use Rattle.cg_names.proofs.Literals.{literal-is}
use Rattle.cg_eval.proofs.named.literal.Goals as goal

pub returns : goal.returns
returns g c =
    let o = c.from_digits.result in
    literal_gives (work_state g.S.CellStore.state c.args.work.now)
    (work_state g.S.CellStore.state c.number_item.new.work) c.args.below c.args.num c.args.den o
    c.number_item.result c.widen.result c.widen.ensures
    (literal-is c.args.below c.args.num c.args.den o c.from_digits.ensures)
    c.number_item.ensures.game c.number_item.ensures.made c.number_item.ensures.more

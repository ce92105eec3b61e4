use Rattle.std.proofs.Common.{false}
use Rattle.cg_canon.specs.Works.{work_state}
use Rattle.cg_eval.proofs.Expressions.{switch_gives, given_not_negative}
use Rattle.cg_names.proofs.Literals.{literal-is}
use Rattle.cg_eval.proofs.named.named_switch.Goals as goal

pub switch-requires : goal.switch-requires
switch-requires g c = given_not_negative c.args.num c.args.den c.from_digits.result
    (literal-is false c.args.num c.args.den c.from_digits.result c.from_digits.ensures)

pub returns : goal.returns
returns g c =
    let o = c.from_digits.result in
    switch_gives (work_state g.S.CellStore.state c.args.work.now)
    (work_state g.S.CellStore.state c.switch.new.work) c.args.num c.args.den o c.switch.result c.widen.result c.widen.ensures
    (literal-is false c.args.num c.args.den o c.from_digits.ensures)
    c.switch.ensures.game c.switch.ensures.made
    c.switch.ensures.more

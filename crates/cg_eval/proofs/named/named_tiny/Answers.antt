use Rattle.std.proofs.Common.{false}
use Rattle.cg_canon.specs.Works.{work_state}
use Rattle.cg_eval.proofs.Expressions.{tiny_gives, given_not_negative}
use Rattle.cg_names.proofs.Literals.{literal-is}
use Rattle.cg_eval.proofs.named.named_tiny.Goals as goal

pub tiny-requires : goal.tiny-requires
tiny-requires g c = given_not_negative c.args.num c.args.den c.from_digits.result
    (literal-is false c.args.num c.args.den c.from_digits.result c.from_digits.ensures)

pub returns : goal.returns
returns g c =
    let o = c.from_digits.result in
    tiny_gives (work_state g.S.CellStore.state c.args.work.now)
    (work_state g.S.CellStore.state c.tiny.new.work) c.args.miny c.args.num c.args.den o c.tiny.result c.widen.result c.widen.ensures
    (literal-is false c.args.num c.args.den o c.from_digits.ensures)
    c.tiny.ensures.game c.tiny.ensures.made
    c.tiny.ensures.more

use Rattle.std.proofs.Common.{sym, ap, arith, map, Ok}
use Rattle.cg_canon.specs.Works.{work_state}
use Rattle.cg_canon.proofs.MadeSteps.{made_as, made_none}
use Rattle.cg_names.specs.Lists.{plain_item}
use Rattle.cg_names.proofs.SwitchPositions.{other_none, other_one}
use Rattle.cg_names.proofs.pairs.make_other.Goals as goal

pub returns-then-is_same : goal.returns-then-is_same
returns-then-is_same g c =
    let W = work_state g.S.CellStore.state c.args.work.now in
    let e = c.is_same.ensures.same c.if-is_same.true in
    record {
      game = rw (← e) c.requires;
      made = made_as W W _ _ (Ok c.args.first) (sym (ap (map plain_item) (other_none c.args.x c.args.y e)))
          (made_none W c.args.first);
      more = omega arith;
    }

pub returns-else-is_same : goal.returns-else-is_same
returns-else-is_same g c =
    let W = work_state g.S.CellStore.state in
    rw (ap (map plain_item) (other_one c.args.x c.args.y (c.is_same.ensures.other c.if-is_same.false)))
    c.make_number.ensures

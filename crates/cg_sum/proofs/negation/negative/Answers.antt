-- The negatives of all positions, of which the last is the negative itself.
use Rattle.std.proofs.Common.{arith, refl, sym, Ok}
use Rattle.cg_canon.specs.Works.{work_state}
use Rattle.cg_canon.proofs.Keeping.{spends_keeps}
use Rattle.cg_canon.proofs.MadeSteps.{made_with}
use Rattle.cg_sum.specs.Progress.{negative_at_place}
use Rattle.cg_sum.proofs.SumEnds.{gives_handed, last_at, last_negative, limit_refused, negative_made}
use Rattle.cg_sum.proofs.SumEnds.{same_spent, some_negative, stands_as}
use Rattle.cg_canon.proofs.WalkPositions.{walk_as}
use Rattle.cg_sum.proofs.negation.negative.Goals as goal

pub returns-in_err-walk : goal.returns-in_err-walk
returns-in_err-walk g c =
    let wv = c.walked.ensures.spends in
    gives_handed _ c.from_residual.ensures.1 (limit_refused _ _ _ _ _ _ _ (same_spent _ _ 0 wv) c.in_err-walk.ensures.refused)
    (spends_keeps 0 _ _ wv) (omega (arith, wv.spare))

pub returns-in_err-table : goal.returns-in_err-table
returns-in_err-table g c =
    let wv = c.walked.ensures.spends in
    gives_handed _ c.from_residual-in_err-table.ensures.1 tt (spends_keeps 0 _ _ wv) (omega (arith, wv.spare))

pub add_negatives-requires : goal.add_negatives-requires
add_negatives-requires g c κs within =
    let walk = c.in_ok-walk.ensures.walk in (
      within.0,
      (
        within.1.0,
        (
          within.1.1,
          (
            walk_as _ _ _ _ (sym walk.at.1) walk,
            c.in_ok-table.ensures.items,
          ),
        ),
      ),
    )

pub returns-in_err-add_negatives : goal.returns-in_err-add_negatives
returns-in_err-add_negatives g c =
    let W = work_state g.S.CellStore.state in
    let wv = c.walked.ensures.spends in
    let walk = c.in_ok-walk.ensures in
    let all = c.in_err-add_negatives.ensures in
    let m = negative_made (W c.args.work.now) (W c.walked.new.work) (W c.add_negatives.new.work) _ _ wv walk.walk.at.1 _ walk.within all.made in
    gives_handed _ c.from_residual-in_err-add_negatives.ensures.1 m.refused m.keeps (omega (arith, wv.spare, all.spare))

pub overflow_sub-len : goal.overflow_sub-len
overflow_sub-len g c =
    let W = work_state g.S.CellStore.state in
    let v = W c.walked.new.work in
    let holds = c.in_ok-add_negatives.ensures.holds in
    let some = some_negative (W c.args.work.now) v v _ _ c.walked.ensures.spends c.in_ok-walk.ensures.walk.at.1 in
    let ok = c.add_negatives.new.table.ok.0 in
    let len = c.len-2.ensures in
    let count = holds.count in
    omega (arith, ok, len, count, some)

pub index-requires : goal.index-requires
index-requires g c =
    let W = work_state g.S.CellStore.state in
    let v = W c.walked.new.work in
    let holds = c.in_ok-add_negatives.ensures.holds in
    let some = some_negative (W c.args.work.now) v v _ _ c.walked.ensures.spends c.in_ok-walk.ensures.walk.at.1 in
    let ok = c.add_negatives.new.table.ok.0 in
    let len = c.len-2.ensures in
    let count = holds.count in
    omega (arith, ok, len, count, some)

pub handle-requires : goal.handle-requires
handle-requires g c =
    let W = work_state g.S.CellStore.state in
    let w = W c.args.work.now in
    let v = W c.walked.new.work in
    let wv = c.walked.ensures.spends in
    let is = c.in_ok-walk.ensures.walk.at.1 in
    let holds = c.in_ok-add_negatives.ensures.holds in
    let some = some_negative w v v _ _ wv is in
    let ok = c.add_negatives.new.table.ok.0 in
    let len = c.len-2.ensures in
    let count = holds.count in
    (last_at _ (negative_at_place _) _ _ holds some _ (last_negative w v v _ _ wv is) _ _ (omega (arith, ok, len, count, some))
    c.index.ensures).within

pub returns : goal.returns
returns g c =
    let W = work_state g.S.CellStore.state in
    let w = W c.args.work.now in
    let v = W c.walked.new.work in
    let x = W c.add_negatives.new.work in
    let wv = c.walked.ensures.spends in
    let is = c.in_ok-walk.ensures.walk.at.1 in
    let holds = c.in_ok-add_negatives.ensures.holds in
    let some = some_negative w v x _ _ wv is in
    let ok = c.add_negatives.new.table.ok.0 in
    let len = c.len-2.ensures in
    let count = holds.count in
    record {
      game = stands_as x _ _ _ (last_at _ (negative_at_place _) _ _ holds some _ (last_negative w v x _ _ wv is) _ _
          (omega (arith, ok, len, count, some)) c.index.ensures).is c.handle.ensures;
      made = made_with w x _ c.add_negatives.result (Ok _) _ _ c.in_ok-add_negatives.was refl
          (negative_made w v x _ _ wv is _ c.in_ok-walk.ensures.within c.add_negatives.ensures.made);
      more = omega (arith, wv.spare, c.add_negatives.ensures.spare);
    }

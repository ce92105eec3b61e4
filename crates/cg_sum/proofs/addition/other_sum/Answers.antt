-- The sums of all pairs of positions, of which the last is the sum itself.
use Rattle.std.proofs.Common.{arith, refl, sym, Ok}
use Rattle.cg_canon.specs.Works.{work_state}
use Rattle.cg_canon.proofs.Keeping.{spends_keeps}
use Rattle.cg_canon.proofs.MadeSteps.{made_with}
use Rattle.cg_sum.specs.Progress.{sum_at_place}
use Rattle.cg_sum.proofs.SumEnds.{gives_handed, last_at, last_sum, some_sum, stands_as, sum_made}
use Rattle.cg_canon.proofs.WalkPositions.{walk_as}
use Rattle.cg_sum.proofs.addition.other_sum.Goals as goal

pub returns-in_err-terms : goal.returns-in_err-terms
returns-in_err-terms g c =
    let wv = c.read_terms.ensures.spends in
    gives_handed _ c.from_residual.ensures.1 c.in_err-terms.ensures.refused (spends_keeps 0 _ _ wv) (omega (arith, wv.spare))

pub returns-in_err-table : goal.returns-in_err-table
returns-in_err-table g c =
    let wv = c.read_terms.ensures.spends in
    gives_handed _ c.from_residual-in_err-table.ensures.1 tt (spends_keeps 0 _ _ wv) (omega (arith, wv.spare))

pub add_rows-requires : goal.add_rows-requires
add_rows-requires g c κs within =
    let terms = c.in_ok-terms.ensures in (
      within.0,
      (
        within.1.0,
        (
          within.1.1,
          (
            walk_as _ _ _ _ (sym terms.firsts.at.1) terms.firsts,
            (
              walk_as _ _ _ _ (sym terms.seconds.at.1) terms.seconds,
              (
                c.in_ok-table.ensures.items,
                omega (arith, terms.start),
              ),
            ),
          ),
        ),
      ),
    )

pub returns-in_err-add_rows : goal.returns-in_err-add_rows
returns-in_err-add_rows g c =
    let W = work_state g.S.CellStore.state in
    let wv = c.read_terms.ensures.spends in
    let terms = c.in_ok-terms.ensures in
    let all = c.in_err-add_rows.ensures in
    let m = sum_made (W c.args.work.now) (W c.read_terms.new.work) (W c.add_rows.new.work) _ _ _ wv terms.firsts.at.1 terms.seconds.at.1 _
    terms.within all.made in
    gives_handed _ c.from_residual-in_err-add_rows.ensures.1 m.refused m.keeps (omega (arith, wv.spare, terms.start, all.spare))

pub overflow_sub-len : goal.overflow_sub-len
overflow_sub-len g c =
    let W = work_state g.S.CellStore.state in
    let w = W c.args.work.now in
    let v = W c.read_terms.new.work in
    let terms = c.in_ok-terms.ensures in
    let holds = c.in_ok-add_rows.ensures.holds in
    let some = some_sum w v v _ _ _ c.read_terms.ensures.spends terms.firsts.at.1 terms.seconds.at.1 in
    let ok = c.add_rows.new.table.ok.0 in
    let len = c.len-3.ensures in
    let count = holds.count in
    omega (arith, ok, len, count, some)

pub index-requires : goal.index-requires
index-requires g c =
    let W = work_state g.S.CellStore.state in
    let w = W c.args.work.now in
    let v = W c.read_terms.new.work in
    let terms = c.in_ok-terms.ensures in
    let holds = c.in_ok-add_rows.ensures.holds in
    let some = some_sum w v v _ _ _ c.read_terms.ensures.spends terms.firsts.at.1 terms.seconds.at.1 in
    let ok = c.add_rows.new.table.ok.0 in
    let len = c.len-3.ensures in
    let count = holds.count in
    omega (arith, ok, len, count, some)

pub handle-requires : goal.handle-requires
handle-requires g c =
    let W = work_state g.S.CellStore.state in
    let w = W c.args.work.now in
    let v = W c.read_terms.new.work in
    let wv = c.read_terms.ensures.spends in
    let terms = c.in_ok-terms.ensures in
    let holds = c.in_ok-add_rows.ensures.holds in
    let some = some_sum w v v _ _ _ wv terms.firsts.at.1 terms.seconds.at.1 in
    let ok = c.add_rows.new.table.ok.0 in
    let len = c.len-3.ensures in
    let count = holds.count in
    (last_at _ (sum_at_place _) _ _ holds some _ (last_sum w v v _ _ _ wv terms.firsts.at.1 terms.seconds.at.1) _ _
    (omega (arith, ok, len, count, some)) c.index.ensures).within

pub returns : goal.returns
returns g c =
    let W = work_state g.S.CellStore.state in
    let w = W c.args.work.now in
    let v = W c.read_terms.new.work in
    let x = W c.add_rows.new.work in
    let wv = c.read_terms.ensures.spends in
    let terms = c.in_ok-terms.ensures in
    let holds = c.in_ok-add_rows.ensures.holds in
    let some = some_sum w v x _ _ _ wv terms.firsts.at.1 terms.seconds.at.1 in
    let ok = c.add_rows.new.table.ok.0 in
    let len = c.len-3.ensures in
    let count = holds.count in
    record {
      game = stands_as x _ _ _ (last_at _ (sum_at_place _) _ _ holds some _ (last_sum w v x _ _ _ wv terms.firsts.at.1 terms.seconds.at.1) _ _
          (omega (arith, ok, len, count, some)) c.index.ensures).is c.handle.ensures;
      made = made_with w x _ c.add_rows.result (Ok _) _ _ c.in_ok-add_rows.was refl
          (sum_made w v x _ _ _ wv terms.firsts.at.1 terms.seconds.at.1 _ terms.within c.add_rows.ensures.made);
      more = omega (arith, wv.spare, terms.start, c.add_rows.ensures.spare);
    }

-- The walks of both games as they stand once both are walked, or the refusal of a list that is too long.
use Rattle.std.proofs.Common.{inr, refl, ◌∙◌, ap, Err}
use Rattle.std.proofs.lemmas.Result.{err_from_is_err_and}
use Rattle.cg_canon.specs.SumItems.{within_limit}
use Rattle.cg_canon.specs.Works.{work_state}
use Rattle.cg_canon.specs.declared.fault.ValueFault.TheVariants.{Positions}
use Rattle.cg_nodes.proofs.Later.{spends_then}
use Rattle.cg_sum.proofs.SumEnds.{err_refused, firsts_above, limit_refused, pairs_above, pairs_within}
use Rattle.cg_sum.proofs.SumEnds.{positions_before, refusal_before, same_spent, seconds_above}
use Rattle.cg_canon.proofs.WalkPositions.{count, walk_as, walk_later}
use Rattle.cg_sum.proofs.terms.read_terms.Goals as goal

pub returns-in_err-firsts-clause-refused : goal.returns-in_err-firsts-clause-refused
returns-in_err-firsts-clause-refused g c =
    let w = work_state g.S.CellStore.state c.args.work.now in
    let v = work_state g.S.CellStore.state c.walked.new.work in
    let p = err_from_is_err_and c.from_residual.result c.from_residual.ensures.1 in
    err_refused _ _ w.rest.share w.rest.spent v.rest.spent (within_limit w.rest.limit _ _) (p.1 ∙ ap Err p.2)
    (limit_refused _ w.rest.share w.rest.spent v.rest.spent w.rest.limit _ _ (same_spent w v 0 c.walked.ensures.spends)
    (firsts_above w.rest.limit _ _ _ c.in_err-firsts.ensures.refused))

pub returns-in_err-seconds-clause-refused : goal.returns-in_err-seconds-clause-refused
returns-in_err-seconds-clause-refused g c =
    let w = work_state g.S.CellStore.state c.args.work.now in
    let x = work_state g.S.CellStore.state c.walked-2.new.work in
    let wx = spends_then 0 0 w _ x c.walked.ensures.spends c.walked-2.ensures.spends in
    let p = err_from_is_err_and c.from_residual-in_err-seconds.result c.from_residual-in_err-seconds.ensures.1 in
    err_refused _ _ w.rest.share w.rest.spent x.rest.spent (within_limit w.rest.limit _ _) (p.1 ∙ ap Err p.2)
    (limit_refused _ w.rest.share w.rest.spent x.rest.spent w.rest.limit _ _ (same_spent w x 0 wx)
    (seconds_above w.rest.limit _ _ _ (refusal_before _ _ 0 c.walked.ensures.spends _ _ c.requires.b c.in_err-seconds.ensures.refused)))

pub returns-then-is_product_above-clause-refused : goal.returns-then-is_product_above-clause-refused
returns-then-is_product_above-clause-refused g c =
    let W = work_state g.S.CellStore.state in
    let w = W c.args.work.now in
    let v = W c.walked.new.work in
    let x = W c.walked-2.new.work in
    let wv = c.walked.ensures.spends in
    let vx = c.walked-2.ensures.spends in
    limit_refused Positions w.rest.share w.rest.spent x.rest.spent w.rest.limit _ _ (same_spent w x 0 (spends_then 0 0 w v x wv vx))
    (inr (
      refl,
      pairs_above w v x _ _ c.requires.b wv vx _ _ _ (c.len.ensures ∙ c.in_ok-firsts.firsts.positions.ok.0 ∙ count _ _ _ c.in_ok-firsts.ensures.walk)
          (c.len-2.ensures ∙ c.in_ok-seconds.seconds.positions.ok.0 ∙ count _ _ _ c.in_ok-seconds.ensures.walk) c.limit.ensures
          (c.is_product_above.ensures.0 c.if-is_product_above.true),
    ))

pub returns-then-is_product_above-clause-spends : goal.returns-then-is_product_above-clause-spends
returns-then-is_product_above-clause-spends g c = spends_then 0 0 _ _ _ c.walked.ensures.spends c.walked-2.ensures.spends

pub returns-clause-firsts : goal.returns-clause-firsts
returns-clause-firsts g c = walk_later _ _ c.walked-2.ensures.begins _ _ c.in_ok-firsts.ensures.walk

pub returns-clause-seconds : goal.returns-clause-seconds
returns-clause-seconds g c =
    let W = work_state g.S.CellStore.state in
    walk_as _ _ _ _ (positions_before (W c.args.work.now) (W c.walked.new.work) 0 c.walked.ensures.spends _ c.requires.b)
    c.in_ok-seconds.ensures.walk

pub returns-clause-within : goal.returns-clause-within
returns-clause-within g c =
    let W = work_state g.S.CellStore.state in
    pairs_within (W c.args.work.now) (W c.walked.new.work) (W c.walked-2.new.work) _ _ c.requires.b c.walked.ensures.spends
    c.walked-2.ensures.spends _ _ _ (c.len.ensures ∙ c.in_ok-firsts.firsts.positions.ok.0 ∙ count _ _ _ c.in_ok-firsts.ensures.walk)
    (c.len-2.ensures ∙ c.in_ok-seconds.seconds.positions.ok.0 ∙ count _ _ _ c.in_ok-seconds.ensures.walk) c.limit.ensures
    (λ above. let t = c.is_product_above.ensures.1 above in let f = c.if-is_product_above.false in cc)

pub returns-clause-spends : goal.returns-clause-spends
returns-clause-spends g c = spends_then 0 0 _ _ _ c.walked.ensures.spends c.walked-2.ensures.spends

-- A sum that was noted is charged; another is made, and noted where a claim is paid for.
use Rattle.std.proofs.Common.{ap, arith, sym, ◌∙◌, Err}
use Rattle.std.proofs.lemmas.Result.{err_from_is_err_and}
use Rattle.cg_canon.specs.Works.{work_state}
use Rattle.cg_nodes.proofs.Later.{spends_then}
use Rattle.cg_nodes.specs.Spelled.{game_meaning}
use Rattle.cg_sum.proofs.ItemSteps.{form_after, form_as, form_noted, given_form, note_of_later}
use Rattle.cg_sum.proofs.Placed.{at_as, begins_as, first_at, ready_later, same_sum, second_at, some_at}
use Rattle.cg_sum.proofs.item.noted_item.Goals as goal

pub pair_cell-cell-requires-clause-a : goal.pair_cell-cell-requires-clause-a
pair_cell-cell-requires-clause-a g c =
    (first_at _ _ _ _ _ c.requires.1.1.1.0.placed _ _ c.index-f.ensures c.index-k.ensures).within

pub pair_cell-cell-requires-clause-b : goal.pair_cell-cell-requires-clause-b
pair_cell-cell-requires-clause-b g c =
    (second_at _ _ _ _ _ c.requires.1.1.1.0.placed _ _ c.index-f.ensures c.index-k.ensures).within

pub returns-in-Some : goal.returns-in-Some
returns-in-Some g c =
    let W = work_state g.S.CellStore.state in
    let w = W c.args.work.now in
    let u = W c.noted_sum.new.self in
    let x = W c.make_again.new.self in
    let wu = spends_then 1 0 w _ u c.pair_cell-cell.ensures.spends c.noted_sum.ensures.spends in
    let begins = begins_as _ _ _ c.pair_cell-cell.ensures.arena c.noted_sum.ensures.begins in
    let st = some_at _ _ _ _ c.in-Some.is (c.in_ok-sum.ensures.sum _ c.pair_cell-cell.ensures.note) in
    form_after w u x _ _ _ _ _ _ _ 1 wu begins u.spare
    (omega (arith, c.requires.1.1.1.1.1, c.spare.ensures.value, c.if-spare-terms.false, wu.spare))
    (given_form u x _ _ _ (omega arith) _ _ 1 1 _
    (st.is ∙ same_sum _ _ _ _ _ c.requires.1.1.1.0.placed _ _ c.index-f.ensures c.index-k.ensures) c.make_again.ensures.item)

pub made_item-requires-2 : goal.made_item-requires-2
made_item-requires-2 g c κs within = (
  within.0,
  (
    within.1.0,
    (
      within.1.1,
      (
        ready_later _ _ (begins_as _ _ _ c.pair_cell-cell.ensures.arena c.noted_sum.ensures.begins) _ _ _ _ _ c.requires.1.1.1.0,
        c.requires.1.1.1.1.0,
      ),
    ),
  ),
)

pub returns-in_err-sum-2 : goal.returns-in_err-sum-2
returns-in_err-sum-2 g c =
    let W = work_state g.S.CellStore.state in
    let w = W c.args.work.now in
    let u = W c.noted_sum.new.self in
    let wu = spends_then 1 0 w _ u c.pair_cell-cell.ensures.spends c.noted_sum.ensures.spends in
    let begins = begins_as _ _ _ c.pair_cell-cell.ensures.arena c.noted_sum.ensures.begins in
    let p = err_from_is_err_and c.from_residual-in_err-sum-2.result c.from_residual-in_err-sum-2.ensures.1 in
    form_as _ _ _ _ _ _ _ _ _ (p.1 ∙ ap Err p.2 ∙ sym c.in_err-sum-2.was) (form_after w u (W c.made_item-2.new.work) _ _ _ _ _ _ _ 1 wu
    begins u.spare (omega (arith, c.requires.1.1.1.1.1, c.spare.ensures.value, c.if-spare-terms.false, wu.spare)) c.made_item-2.ensures)

pub note_sum-requires : goal.note_sum-requires
note_sum-requires g c =
    let W = work_state g.S.CellStore.state in
    let v = W c.pair_cell-cell.new.self in
    let x = W c.made_item-2.new.work in (
      _,
      note_of_later (game_meaning g.B.BoardForms.form) v x
          (λ i t e. c.made_item-2.ensures.made.keeps.known i t (c.noted_sum.ensures.spends.known i t e)) c.pair_cell-cell.result _
          c.pair_cell-cell.ensures.note,
      at_as _ _ _ _ (sym (same_sum _ _ _ _ _ c.requires.1.1.1.0.placed _ _ c.index-f.ensures c.index-k.ensures)) c.in_ok-sum-2.ensures.at,
    )

pub returns : goal.returns
returns g c =
    let W = work_state g.S.CellStore.state in
    let w = W c.args.work.now in
    let u = W c.noted_sum.new.self in
    let x = W c.made_item-2.new.work in
    let wu = spends_then 1 0 w _ u c.pair_cell-cell.ensures.spends c.noted_sum.ensures.spends in
    let begins = begins_as _ _ _ c.pair_cell-cell.ensures.arena c.noted_sum.ensures.begins in
    form_noted w x (W c.note_sum.new.self) _ _ _ _ _ _ _ (form_as _ _ _ _ _ _ _ c.made_item-2.result _ (sym c.in_ok-sum-2.was) (form_after w u x _ _ _ _ _ _ _ 1
    wu begins u.spare (omega (arith, c.requires.1.1.1.1.1, c.spare.ensures.value, c.if-spare-terms.false, wu.spare)) c.made_item-2.ensures))
    c.note_sum.ensures.spends c.note_sum.ensures.arena

use Rattle.std.proofs.Common.{ap, ◌∙◌, subst, Err, List}
use Rattle.std.proofs.lemmas.Result.{err_from_is_err_and}
use Rattle.cg_canon.specs.Works.{work_state}
use Rattle.cg_moves.specs.Grid.{Grid}
use Rattle.cg_values.specs.Notes.{AreNoted}
use Rattle.cg_values.specs.Parts.{FrontsNoted}
use Rattle.cg_values.proofs.Fronts.{fronts-all, fronts-none, if_err, if_err_any}
use Rattle.cg_values.proofs.GiveSteps.{board_gives, board_refused, board_stopped}
use Rattle.cg_values.proofs.JoinSteps.{parts_give}
use Rattle.cg_values.proofs.NoteSteps.{noted-later, on_ok_any}
use Rattle.cg_values.proofs.PartLemmas.{all-has}
use Rattle.cg_values.proofs.ValueSteps.{starts_held}
use Rattle.cg_values.proofs.reached.value_of.Goals as goal

pub returns-in_err-graph-clause-gives : goal.returns-in_err-graph-clause-gives
returns-in_err-graph-clause-gives g c =
    let p = err_from_is_err_and c.from_residual.result c.from_residual.ensures.1 in
    board_refused (work_state g.S.CellStore.state c.args.work.now) (g.R.Rules.game c.args.rules.now) c.args.start.now _ _ _
    c.limit-limit.ensures (p.1 ∙ ap Err p.2) c.in_err-graph.ensures.refused

pub returns-in_err-graph-clause-noted_before : goal.returns-in_err-graph-clause-noted_before
returns-in_err-graph-clause-noted_before g c =
    let p = err_from_is_err_and c.from_residual.result c.from_residual.ensures.1 in
    if_err c.from_residual.result _ _ (p.1 ∙ ap Err p.2)
    (fronts-none (work_state g.S.CellStore.state c.args.work.now) (work_state g.S.CellStore.state c.args.work.now)
    (g.R.Rules.game c.args.rules.now) c.args.start.now _ _ _ c.limit-limit.ensures c.in_err-graph.ensures.refused)

pub part_values-requires-clause-has : goal.part_values-requires-clause-has
part_values-requires-clause-has g c =
    all-has _ c.lawful.ensures _ c.requires.has _ c.in_ok-graph.ensures.graph.boards

pub returns-in_err-handles-clause-gives : goal.returns-in_err-handles-clause-gives
returns-in_err-handles-clause-gives g c =
    let p = err_from_is_err_and c.from_residual-in_err-handles.result c.from_residual-in_err-handles.ensures.1 in
    board_stopped _ _ _ _ _ _ c.limit-limit.ensures c.in_ok-graph.ensures.graph.boards c.in_ok-graph.ensures.within _
    c.part_values.ensures.made c.part_values.ensures.more _ _ c.in_err-handles.was (p.1 ∙ ap Err p.2)

pub returns-in_err-handles-clause-noted_before : goal.returns-in_err-handles-clause-noted_before
returns-in_err-handles-clause-noted_before g c =
    let p = err_from_is_err_and c.from_residual-in_err-handles.result c.from_residual-in_err-handles.ensures.1 in
    let W = work_state g.S.CellStore.state in
    let P : List Grid → Type 0 = λ z. FrontsNoted (W c.args.work.now) (W c.part_values.new.work) (g.R.Rules.game c.args.rules.now) z in
    if_err c.from_residual-in_err-handles.result _ _ (p.1 ∙ ap Err p.2)
    (λ other within. subst P c.in_ok-graph.ensures.graph.boards (c.in_err-handles.ensures.fronts other))

pub joined-requires-clause-within : goal.joined-requires-clause-within
joined-requires-clause-within g c =
    let own = starts_held (work_state g.S.CellStore.state c.part_values.new.work) _ _ _ _ _ _ c.in_ok-graph.ensures.graph
    c.in_ok-handles.ensures.values c.deref.ensures.value c.deref-2.ensures.value in
    own.within

pub joined-requires-clause-games : goal.joined-requires-clause-games
joined-requires-clause-games g c =
    let own = starts_held (work_state g.S.CellStore.state c.part_values.new.work) _ _ _ _ _ _ c.in_ok-graph.ensures.graph
    c.in_ok-handles.ensures.values c.deref.ensures.value c.deref-2.ensures.value in
    own.values.0

pub returns-clause-gives : goal.returns-clause-gives
returns-clause-gives g c =
    let own = starts_held (work_state g.S.CellStore.state c.part_values.new.work) _ _ _ _ _ _ c.in_ok-graph.ensures.graph
    c.in_ok-handles.ensures.values c.deref.ensures.value c.deref-2.ensures.value in
    board_gives _ _ _ _ _ _ c.limit-limit.ensures c.in_ok-graph.ensures.graph.boards c.in_ok-graph.ensures.within _
    c.part_values.ensures.made c.part_values.ensures.more _ _ c.in_ok-handles.was _
    (parts_give _ _ _ c.lawful.ensures _ c.requires.has _ _ own _ c.joined.ensures)

pub returns-clause-noted : goal.returns-clause-noted
returns-clause-noted g c =
    let r = g.R.Rules.game c.args.rules.now in
    let W = work_state g.S.CellStore.state in
    let own = starts_held (W c.part_values.new.work) _ _ _ _ _ _ c.in_ok-graph.ensures.graph c.in_ok-handles.ensures.values
    c.deref.ensures.value c.deref-2.ensures.value in
    let last = parts_give _ _ _ c.lawful.ensures _ c.requires.has _ _ own _ c.joined.ensures in
    let P : List Grid → Type 0 = λ z. AreNoted (W c.joined.new.work) r z in
    on_ok_any c.joined.result (subst P c.in_ok-graph.ensures.graph.boards
    (noted-later (W c.part_values.new.work) (W c.joined.new.work) r last.made.keeps.known _ last.made.keeps.noted
    c.in_ok-handles.ensures.noted))

pub returns-clause-noted_before : goal.returns-clause-noted_before
returns-clause-noted_before g c =
    let r = g.R.Rules.game c.args.rules.now in
    let W = work_state g.S.CellStore.state in
    let own = starts_held (W c.part_values.new.work) _ _ _ _ _ _ c.in_ok-graph.ensures.graph c.in_ok-handles.ensures.values
    c.deref.ensures.value c.deref-2.ensures.value in
    let last = parts_give _ _ _ c.lawful.ensures _ c.requires.has _ _ own _ c.joined.ensures in
    let P : List Grid → Type 0 = λ z. FrontsNoted (W c.args.work.now) (W c.joined.new.work) r z in
    if_err_any c.joined.result _ (λ e other within. subst P c.in_ok-graph.ensures.graph.boards
    (fronts-all (W c.args.work.now) (W c.joined.new.work) r _
    (noted-later (W c.part_values.new.work) (W c.joined.new.work) r last.made.keeps.known _ last.made.keeps.noted
    c.in_ok-handles.ensures.noted)))

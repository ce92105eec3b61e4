use Rattle.cg_canon.specs.Works.{work_state}
use Rattle.cg_canon.proofs.DistinctSteps.{same_form_as, same_games_as}
use Rattle.cg_canon.proofs.forms.canonical.Goals as goal

pub found_item-requires-clause-lefts : goal.found_item-requires-clause-lefts
found_item-requires-clause-lefts g c =
    same_games_as (work_state g.S.CellStore.state c.args.work.now) _ _ _ c.as_slice.ensures c.in_ok-own.ensures c.requires.lefts

pub found_item-requires-clause-rights : goal.found_item-requires-clause-rights
found_item-requires-clause-rights g c =
    same_games_as (work_state g.S.CellStore.state c.args.work.now) _ _ _ c.as_slice-2.ensures c.in_ok-others.ensures c.requires.rights

pub returns : goal.returns
returns g c =
    let W = work_state g.S.CellStore.state in
    rw (← (same_form_as (W c.args.work.now) _ _ _ _ _ _ c.as_slice.ensures c.as_slice-2.ensures c.in_ok-own.ensures c.in_ok-others.ensures
    c.requires.lefts c.requires.rights)) c.found_item.ensures

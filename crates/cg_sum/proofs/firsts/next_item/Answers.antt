-- The next nimber is made of those that are known.
use Rattle.std.proofs.Common.{refl, subst, Ok}
use Rattle.cg_canon.proofs.MadeSteps.{made_with}
use Rattle.cg_canon.specs.Works.{work_state}
use Rattle.cg_form.specs.Game.{Game}
use Rattle.cg_nodes.specs.Games.{StandsFor}
use Rattle.cg_sum.proofs.FirstSteps.{first_later, first_more, next_canonical, next_games, nimber_made}
use Rattle.cg_canon.proofs.MadeCalls.{made_handed}
use Rattle.cg_sum.proofs.firsts.next_item.Goals as goal

pub canonical_item-requires-clause-canonical : goal.canonical_item-requires-clause-canonical
canonical_item-requires-clause-canonical g c =
    next_canonical (work_state g.S.CellStore.state c.args.work.now) c.args.handles.now.items _ _ c.requires.some
    c.requires.first c.as_slice.ensures.value c.as_slice-2.ensures.value

pub returns-in_err-next-clause-made : goal.returns-in_err-next-clause-made
returns-in_err-next-clause-made g c =
    made_handed (nimber_made _ _ _ _ _ (next_games (work_state g.S.CellStore.state c.args.work.now) c.args.handles.now.items _ _ c.requires.some
    c.requires.first c.as_slice.ensures.value c.as_slice-2.ensures.value) c.in_err-next.ensures.gives.made) c.from_residual.ensures.1

pub returns-clause-first : goal.returns-clause-first
returns-clause-first g c =
    let W = work_state g.S.CellStore.state in
    let w = W c.args.work.now in
    let x = W c.canonical_item.new.work in
    let P : Game → Type 0 = λ z. StandsFor x c.in_ok-next.next z in
    first_more x c.args.handles.now.items _ _
    (first_later w x c.canonical_item.ensures.gives.made.keeps.known c.args.handles.now.items c.requires.first)
    (subst P (next_games w c.args.handles.now.items _ _ c.requires.some c.requires.first c.as_slice.ensures.value
    c.as_slice-2.ensures.value) c.in_ok-next.ensures.gives.game) c.in_ok-push.ensures.items

pub returns-clause-made : goal.returns-clause-made
returns-clause-made g c =
    made_with _ _ _ c.canonical_item.result (Ok _) _ _ c.in_ok-next.was refl
    (nimber_made _ _ _ _ c.canonical_item.result
    (next_games (work_state g.S.CellStore.state c.args.work.now) c.args.handles.now.items _ _ c.requires.some
    c.requires.first c.as_slice.ensures.value c.as_slice-2.ensures.value) c.canonical_item.ensures.gives.made)

-- A nimber that is known is charged.
use Rattle.std.proofs.Common.{◌<◌, arith, refl, length, Ok}
use Rattle.cg_canon.proofs.MadeSteps.{made_with}
use Rattle.cg_canon.specs.Works.{work_state}
use Rattle.cg_nodes.proofs.Later.{stands_game, stands_is_game}
use Rattle.cg_sum.proofs.FirstSteps.{first_later, first_stands, nimber_made}
use Rattle.cg_canon.proofs.MadeCalls.{made_handed}
use Rattle.cg_sum.proofs.firsts.first_item.Goals as goal

pub item_of-requires-clause-game : goal.item_of-requires-clause-game
item_of-requires-clause-game g c =
    let w = work_state g.S.CellStore.state c.args.work.now in
    let within : c.args.n < length c.args.handles.now.items =
    (let l = c.if-n-len.true in let e = c.len.ensures in omega arith) in
    stands_is_game w _ _ (first_stands w _ _ _ c.requires.first within c.index.ensures)

pub returns-in_err-item_of-clause-made : goal.returns-in_err-item_of-clause-made
returns-in_err-item_of-clause-made g c =
    let w = work_state g.S.CellStore.state c.args.work.now in
    let within : c.args.n < length c.args.handles.now.items =
    (let l = c.if-n-len.true in let e = c.len.ensures in omega arith) in
    made_handed (nimber_made _ _ _ _ _ (stands_game w _ _ (first_stands w _ _ _ c.requires.first within c.index.ensures))
    c.in_err-item_of.ensures.given.gives.made) c.from_residual.ensures.1

pub returns-in_ok-item_of-clause-first : goal.returns-in_ok-item_of-clause-first
returns-in_ok-item_of-clause-first g c =
    let W = work_state g.S.CellStore.state in
    first_later (W c.args.work.now) (W c.item_of.new.work) c.item_of.ensures.given.gives.made.keeps.known _ c.requires.first

pub returns-in_ok-item_of-clause-made : goal.returns-in_ok-item_of-clause-made
returns-in_ok-item_of-clause-made g c =
    let w = work_state g.S.CellStore.state c.args.work.now in
    let within : c.args.n < length c.args.handles.now.items =
    (let l = c.if-n-len.true in let e = c.len.ensures in omega arith) in
    made_with _ _ _ c.item_of.result (Ok _) _ _ c.in_ok-item_of.was refl (nimber_made _ _ _ _ c.item_of.result
    (stands_game w _ _ (first_stands w _ _ _ c.requires.first within c.index.ensures)) c.item_of.ensures.given.gives.made)

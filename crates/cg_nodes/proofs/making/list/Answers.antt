use Rattle.std.proofs.Common.{ap, ◌∙◌}
use Rattle.cg_nodes.proofs.Lists.{stacked_none, stacked_game, stacked_spare, stacked_more, stacked_all}
use Rattle.cg_nodes.proofs.Later.{is_game_later}
use Rattle.cg_nodes.proofs.making.list.Goals as goal

pub loop-option-init : goal.loop-option-init
loop-option-init g c =
    let e = ap (λ r. r.iter.rest.now) c.into_iter-option-iterator.ensures.into_iter_gives
    ∙ (ap (λ i. i.rest.now) c.rev-option-items.ensures.source ∙ c.iter.ensures.rest) in
    rw e (stacked_none (g.S.CellStore.state c.args.store.now) c.args.options.now c.requires.games)

pub prepend-list-requires-clause-spare : goal.prepend-list-requires-clause-spare
prepend-list-requires-clause-spare g c = stacked_spare _ _ _ _ _ _ _ c.loop-option.invariant c.in-Some.ensures.steps
    c.requires.spare

pub prepend-list-requires-clause-first : goal.prepend-list-requires-clause-first
prepend-list-requires-clause-first g c = is_game_later (g.S.CellStore.state c.args.store.now) (g.S.CellStore.state
    c.loop-option.store) c.loop-option.invariant.spends.known _ (stacked_game _ _ _ _ _ _ _ c.loop-option.invariant
    c.in-Some.ensures.steps)

pub prepend-list-requires-clause-rest : goal.prepend-list-requires-clause-rest
prepend-list-requires-clause-rest g c = c.loop-option.invariant.list

pub loop-option-preserved : goal.loop-option-preserved
loop-option-preserved g c = stacked_more _ _ _ _ _ _ _ _ _ c.loop-option.invariant c.in-Some.ensures.steps
    c.prepend-list.ensures.spends c.prepend-list.ensures.list

pub returns-clause-list : goal.returns-clause-list
returns-clause-list g c = (stacked_all _ _ _ _ _ c.loop-option.invariant c.in-None.ensures.steps.0).0

pub returns-clause-spends : goal.returns-clause-spends
returns-clause-spends g c = (stacked_all _ _ _ _ _ c.loop-option.invariant c.in-None.ensures.steps.0).1

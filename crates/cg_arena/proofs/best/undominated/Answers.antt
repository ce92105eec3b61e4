use Rattle.std.proofs.Common.{List, ℕ, subst, sym}
use Rattle.cg_arena.specs.Arena.{AreIndexes, games_of}
use Rattle.cg_arena.specs.Undominated.{Undominated}
use Rattle.cg_arena.proofs.Keeping.{indexes_moved, undominated_moved}
use Rattle.cg_arena.proofs.Results.{if_ok}
use Rattle.cg_arena.proofs.best.undominated.Goals as goal

pub undominated_in_turn-requires-2-clause-items : goal.undominated_in_turn-requires-2-clause-items
undominated_in_turn-requires-2-clause-items c =
    let P : List ℕ → Type 0 = λ z. AreIndexes c.args.arena.now z in
    subst P (sym c.as_slice.ensures.value) (indexes_moved c.args.arena.now c.args.items.now c.in_ok-all.all.items c.in_ok-all.ensures c.requires.items)

pub returns-clause-undominated : goal.returns-clause-undominated
returns-clause-undominated c =
    let gs = c.args.arena.now in
    if_ok c.undominated_in_turn-2.result _ _ c.undominated_in_turn-2.ensures.undominated
    (λ r h. (let P : List ℕ → Type 0 = λ z. Undominated c.args.left (games_of gs z) (games_of gs r.items) in
    undominated_moved gs c.args.left c.args.items.now c.in_ok-all.all.items (games_of gs r.items) c.in_ok-all.ensures (subst P c.as_slice.ensures.value h)))

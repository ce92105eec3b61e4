use Rattle.std.proofs.Common.{List, ℕ, cond, subst, sym}
use Rattle.cg_arena.specs.Arena.{games_of}
use Rattle.cg_arena.specs.Undominated.{Undominated}
use Rattle.cg_arena.specs.UnreducedGames.{unreduced_game}
use Rattle.cg_arena.proofs.Reducing.{candidates_replace, replace_themselves}
use Rattle.cg_arena.proofs.Results.{if_ok}
use Rattle.cg_arena.proofs.reduce.put_replaced.Goals as goal

pub returns-then-branch-clause-replaces : goal.returns-then-branch-clause-replaces
returns-then-branch-clause-replaces c =
    let gs = c.args.arena.now in
    let own = cond c.args.left c.args.unreduced.now.lefts.now c.args.unreduced.now.rights.now in
    let P : List ℕ → Type 0 = λ z. Undominated c.args.left (games_of gs own) (games_of gs z) in
    if_ok c.put_in_order.result _ _ (c.put_in_order.ensures.best c.args.left (games_of gs own) (subst P (sym c.own.ensures) c.requires.undominated))
    (λ r b. replace_themselves c.args.left (unreduced_game gs c.args.unreduced.now) (games_of gs own) (games_of gs c.put_in_order.new.list.items)
    (c.in_ok-all_stay.ensures.fine c.if-branch.true) b)

pub returns-clause-replaces : goal.returns-clause-replaces
returns-clause-replaces c =
    let gs = c.args.arena.now in
    let own = cond c.args.left c.args.unreduced.now.lefts.now c.args.unreduced.now.rights.now in
    let us = games_of gs c.in_ok-all.all.items in
    let P : List ℕ → Type 0 = λ z. Undominated c.args.left us (games_of gs z) in
    let Q : List ℕ → Type 0 = λ z. Undominated c.args.left (games_of gs z) (games_of gs c.in_ok-best.best.items) in
    if_ok c.put_in_order-2.result _ _
    (c.put_in_order-2.ensures.best c.args.left us (subst P (sym c.as_slice-2.ensures) (subst Q c.as_slice.ensures c.in_ok-best.ensures.undominated)))
    (λ r b. candidates_replace c.args.left (unreduced_game gs c.args.unreduced.now) (games_of gs own) us (games_of gs c.put_in_order-2.new.list.items)
    c.in_ok-all.ensures.grown c.in_ok-all.ensures.covered b)

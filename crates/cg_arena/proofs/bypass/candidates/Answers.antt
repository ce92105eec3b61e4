use Rattle.std.proofs.Common.{List, ℕ, subst}
use Rattle.cg_form.specs.Bypass.{AllCovered, Grown}
use Rattle.cg_arena.specs.Arena.{games_of}
use Rattle.cg_arena.specs.UnreducedGames.{unreduced_game}
use Rattle.cg_arena.proofs.Bypassing.{no_substitutes, own_less, unreduced_indexes}
use Rattle.cg_arena.proofs.bypass.candidates.Goals as goal

pub bypass_list-requires-clause-list : goal.bypass_list-requires-clause-list
bypass_list-requires-clause-list c =
    unreduced_indexes c.args.arena.now c.args.unreduced.now c.args.left c.own.result.now c.requires.known.unreduced c.own.ensures

pub bypass_list-requires-clause-less : goal.bypass_list-requires-clause-less
bypass_list-requires-clause-less c = own_less c.args.arena.now c.args.unreduced.now c.args.left c.own.result.now c.own.ensures

pub bypass_list-requires-clause-out : goal.bypass_list-requires-clause-out
bypass_list-requires-clause-out c =
    no_substitutes c.args.arena.now c.args.left c.args.unreduced.now c.new-all.result c.new-all.ensures.items c.new-all.ensures.passed

pub returns-clause-grown : goal.returns-clause-grown
returns-clause-grown c =
    let gs = c.args.arena.now in
    let P : List ℕ → Type 0 = λ z. Grown c.args.left (unreduced_game gs c.args.unreduced.now) (games_of gs z) (games_of gs c.bypass_list.new.out.items.items) in
    subst P c.new-all.ensures.items c.in_ok-bypass_list.ensures.done.grown

pub returns-clause-covered : goal.returns-clause-covered
returns-clause-covered c =
    let gs = c.args.arena.now in
    let P : List ℕ → Type 0 = λ z. AllCovered c.args.left (unreduced_game gs c.args.unreduced.now) (games_of gs c.bypass_list.new.out.items.items)
    (games_of gs z) in
    subst P c.own.ensures (record { each = c.in_ok-bypass_list.ensures.done.covered })

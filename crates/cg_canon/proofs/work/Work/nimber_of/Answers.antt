use Rattle.std.proofs.Common.{ap, subst, ◌∙◌, Some}
use Rattle.std.proofs.lemmas.Option.{IfSome_then}
use Rattle.cg_nodes.specs.Games.{StandsFor}
use Rattle.cg_nodes.specs.Meant.{form}
use Rattle.cg_arena.specs.Arena.{game_of}
use Rattle.cg_canon.specs.Works.{WorkOf, work_state}
use Rattle.cg_canon.proofs.InternerSteps.{known_index, named_stands}
use Rattle.cg_canon.proofs.work.Work.nimber_of.Goals as goal

pub nimber_of_game-requires : goal.nimber_of_game-requires
nimber_of_game-requires g c =
    let s = g.S.CellStore.state c.self.inside.store.now in
    rw (← c.self.view_is) (known_index s c.self.inside.cache.memo.interner c.args.a c.in_ok-game.game c.self.invariant.1.interner
    c.in_ok-game.ensures.game).0

pub returns : goal.returns
returns g c =
    let W = work_state g.S.CellStore.state in
    let s = g.S.CellStore.state c.self.inside.store.now in
    let P : WorkOf _ → Type 0 = λ w. StandsFor (W w) c.args.a (game_of w.arena c.in_ok-game.game) in
    let stands = subst P c.self.view_is (named_stands s c.self.inside.cache.memo.interner c.args.a c.in_ok-game.game c.self.invariant.1.interner
    c.in_ok-game.ensures.game) in
    IfSome_then c.nimber_of_game.result c.nimber_of_game.ensures (λ n e. stands ∙ ap (λ z. Some (form z)) e)

use Rattle.std.proofs.Common.{ap, arith, refl, subst, sym, Some, ◌∙◌, ◌++◌, ◌∷◌, []}
use Rattle.cg_form.specs.Game.{number}
use Rattle.cg_canon.proofs.InternerSteps.{holds_more, holds_same, known_index}
use Rattle.cg_canon.specs.Recognized.{AreRecognized}
use Rattle.cg_canon.proofs.InternerHandles.{few_handles}
use Rattle.cg_canon.proofs.Recognizing.{number_parts, recognized_more}
use Rattle.cg_canon.proofs.entering.enter_number.Goals as goal

pub returns-in_err-reserve-clause-holds : goal.returns-in_err-reserve-clause-holds
returns-in_err-reserve-clause-holds g c =
    let b = c.args.interner.now in
    holds_same (g.S.CellStore.state c.args.store.now) b (record b { by_id = c.reserve.new.self }) c.requires.holds refl refl refl
    c.reserve.ensures refl refl refl

pub returns-in_err-reserve-2-clause-holds : goal.returns-in_err-reserve-2-clause-holds
returns-in_err-reserve-2-clause-holds g c =
    let b = c.args.interner.now in
    holds_same (g.S.CellStore.state c.args.store.now) b (record b { by_id = c.reserve.new.self; handles = c.reserve-2.new.self }) c.requires.holds
    refl c.reserve-2.ensures.items refl c.reserve.ensures refl refl refl

pub returns-in_err-game-clause-holds : goal.returns-in_err-game-clause-holds
returns-in_err-game-clause-holds g c =
    let b = c.args.interner.now in
    holds_same (g.S.CellStore.state c.args.store.now) b
    (record b { arena = c.add_number.new.self; by_id = c.reserve.new.self; handles = c.reserve-2.new.self }) c.requires.holds
    c.in_err-game.ensures.same c.reserve-2.ensures.items refl c.reserve.ensures refl refl refl

pub returns-clause-holds : goal.returns-clause-holds
returns-clause-holds g c =
    let b = c.args.interner.now in
    let more = c.name.ensures.arena ∙ c.in_ok-game.ensures.games in
    let known = subst (AreRecognized b.arena) (sym c.name.ensures.recognized) c.requires.holds.recognized in
    holds_more (g.S.CellStore.state c.args.store.now) b (record c.name.new.self { recognized = c.enter.new.self }) c.args.handle (number c.args.x)
    c.requires.holds
    more c.requires.is
    (c.name.ensures.handles ∙ ap (λ z. z ++ (c.args.handle ∷ [])) c.reserve-2.ensures.items) c.name.ensures.answers c.in_default.ensures.none
    (λ w. let (old, l) = c.name.ensures.indexed w in (old, l ∙ ap (λ z. z ++ (c.args.handle ∷ [])) c.reserve.ensures))
    c.name.ensures.pairs c.requires.game
    (recognized_more b.arena c.name.new.self.arena c.name.new.self.recognized c.enter.new.self (number c.args.x) c.in_ok-game.game
    (Some c.of_number.result) more c.in_ok-game.ensures.index tt
    (number_parts c.args.x c.of_number.result c.of_number.ensures.number c.of_number.ensures.ups c.of_number.ensures.star) c.enter.ensures known)

pub returns-in-Some-clause-game : goal.returns-in-Some-clause-game
returns-in-Some-clause-game g c =
    let k = known_index (g.S.CellStore.state c.args.store.now) c.args.interner.now c.args.handle c.in-Some.game c.requires.holds c.in-Some.ensures.game in
    (k.0, k.1 ∙ c.requires.is)

pub add_number-requires : goal.add_number-requires
add_number-requires g c =
    let count = c.requires.holds.count in
    let few = few_handles c.args.interner.now.handles.items c.args.interner.now.by_id c.args.interner.now.is_complete c.requires.holds.apart in
    record { few = omega arith }

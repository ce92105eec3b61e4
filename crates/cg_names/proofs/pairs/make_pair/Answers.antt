use Rattle.std.proofs.Common.{refl, sym, subst, [], ◌∷◌, arith}
use Rattle.std.proofs.lemmas.List.{map-append}
use Rattle.cg_canon.specs.Works.{work_state}
use Rattle.cg_form.specs.Canonical.{Canonical}
use Rattle.cg_form.specs.Game.{Game, number}
use Rattle.cg_nodes.proofs.Later.{stands_later}
use Rattle.cg_names.specs.Lists.{plain_item}
use Rattle.cg_names.specs.Named.{other_numbers, pair_form}
use Rattle.cg_canon.proofs.MadeCalls.{handed, last, made_handed, next}
use Rattle.cg_names.proofs.PairSteps.{pair_made}
use Rattle.cg_names.proofs.pairs.make_pair.Goals as goal

pub returns-in_err-first-clause-made : goal.returns-in_err-first-clause-made
returns-in_err-first-clause-made g c = handed _ c.in_err-first.ensures.made c.from_residual.ensures.1 refl

pub returns-in_err-second-clause-made : goal.returns-in_err-second-clause-made
returns-in_err-second-clause-made g c =
    handed _ (last c.in_ok-first.ensures.made c.in_err-second.ensures.made refl) c.from_residual-in_err-second.ensures.1
    (map-append plain_item (number c.args.x ∷ other_numbers c.args.x c.args.y) (pair_form c.args.x c.args.y ∷ []))

pub make-requires-clause-canonical : goal.make-requires-clause-canonical
make-requires-clause-canonical g c =
    let W = work_state g.S.CellStore.state in
    let f = stands_later (W c.make_number.new.work) (W c.make_other.new.work) c.in_ok-second.ensures.made.keeps.known c.in_ok-first.first
    (number c.args.x) c.in_ok-first.ensures.game in
    let P : Game → Type 0 = λ z. Canonical z in
    subst P (sym (pair_made (W c.make_other.new.work) c.args.x c.args.y _ _ f c.in_ok-second.ensures.game)) c.requires

pub returns-in_err-game-clause-made : goal.returns-in_err-game-clause-made
returns-in_err-game-clause-made g c =
    let W = work_state g.S.CellStore.state in
    let f = stands_later (W c.make_number.new.work) (W c.make_other.new.work) c.in_ok-second.ensures.made.keeps.known c.in_ok-first.first
    (number c.args.x) c.in_ok-first.ensures.game in
    let e = pair_made (W c.make_other.new.work) c.args.x c.args.y _ _ f c.in_ok-second.ensures.game in
    made_handed (last (last c.in_ok-first.ensures.made c.in_ok-second.ensures.made refl) (c.in_err-game.ensures _ e).made
    (map-append plain_item (number c.args.x ∷ other_numbers c.args.x c.args.y) (pair_form c.args.x c.args.y ∷ [])))
    c.from_residual-in_err-game.ensures.1

pub returns-in_err-game-clause-more : goal.returns-in_err-game-clause-more
returns-in_err-game-clause-more g c =
    let W = work_state g.S.CellStore.state in
    let f = stands_later (W c.make_number.new.work) (W c.make_other.new.work) c.in_ok-second.ensures.made.keeps.known c.in_ok-first.first
    (number c.args.x) c.in_ok-first.ensures.game in
    let e = pair_made (W c.make_other.new.work) c.args.x c.args.y _ _ f c.in_ok-second.ensures.game in
    let first = c.make_number.ensures.more in
    let second = c.make_other.ensures.more in
    let third = (c.make.ensures _ e).more in
    omega arith

pub returns : goal.returns
returns g c =
    let W = work_state g.S.CellStore.state in
    let f = stands_later (W c.make_number.new.work) (W c.make_other.new.work) c.in_ok-second.ensures.made.keeps.known c.in_ok-first.first
    (number c.args.x) c.in_ok-first.ensures.game in
    let e = pair_made (W c.make_other.new.work) c.args.x c.args.y _ _ f c.in_ok-second.ensures.game in
    let game = c.in_ok-game.ensures _ e in
    let first = c.make_number.ensures.more in
    let second = c.make_other.ensures.more in
    let third = game.more in
    record {
      first = stands_later (W c.make_other.new.work) (W c.make.new.work) game.made.keeps.known c.in_ok-first.first (number c.args.x) f;
      second = stands_later (W c.make_other.new.work) (W c.make.new.work) game.made.keeps.known c.in_ok-second.second (number c.args.y)
          c.in_ok-second.ensures.game;
      game = game.game;
      made = next (last c.in_ok-first.ensures.made c.in_ok-second.ensures.made refl) game.made
          (map-append plain_item (number c.args.x ∷ other_numbers c.args.x c.args.y) (pair_form c.args.x c.args.y ∷ []));
      more = omega arith;
    }

use Rattle.std.proofs.Common.{◌≡◌, List, [], ◌∷◌, ◌++◌, ap, rules, sym, true, ◌∙◌, subst}
use Rattle.cg_form.specs.Game.{Game}
use Rattle.cg_form.specs.Order.{no_one}
use Rattle.cg_form.specs.Side.{at_most}
use Rattle.cg_arena.specs.Arena.{game_of, games_of}
use Rattle.cg_arena.specs.Reach.{AreBounds}
use Rattle.cg_arena.proofs.Reaching.{bounds_with_last}
use Rattle.cg_arena.proofs.Slices.{games_pushed, indexes_pushed}
use Rattle.cg_arena.proofs.Undominating.{with_last_put}
use Rattle.cg_arena.proofs.best.put_one.Goals as goal

pub returns-clause-indexes : goal.returns-clause-indexes
returns-clause-indexes c =
    indexes_pushed c.args.arena.now c.take_out_bounded.new.items.items c.push_option.new.options.items c.args.x
    c.in_ok-take_out_bounded.ensures.indexes c.requires.x c.in_ok-push_option.ensures

pub returns-clause-bounds : goal.returns-clause-bounds
returns-clause-bounds c =
    let gs = c.args.arena.now in
    let x = game_of gs c.args.x in
    let all = games_of gs c.args.best.now.items.items in
    let yes : c.in_ok-none_beats.field-0 ≡ true = search (rules, c.if-not-branch.false) in
    let P : List Game → Type 0 = λ z. AreBounds z c.with-best.result in
    subst P (sym (games_pushed gs c.take_out_bounded.new.items.items c.push_option.new.options.items c.args.x c.in_ok-push_option.ensures
    ∙ ap (λ z. z ++ x ∷ []) c.in_ok-take_out_bounded.ensures.kept
    ∙ with_last_put c.args.left all x c.in_ok-none_beats.field-0
    (c.in_ok-none_beats.ensures.order ∙ ap (λ z. no_one (at_most c.args.left x) (games_of gs z)) c.as_slice.ensures) yes))
    (bounds_with_last c.args.left all x c.with-best.result (c.with-best.ensures all x c.requires.bounds c.keys.ensures))

use Rattle.std.proofs.Common.{ap, get_or, ◌∙◌, ◌++◌, ◌∷◌, []}
use Rattle.cg_arena.proofs.Slices.{item_is}
use Rattle.cg_canon.proofs.WalkPlaces.{appended_next}
use Rattle.cg_canon.proofs.walk.Walk.put_options.Goals as goal

pub loop-game-preserved : goal.loop-game-preserved
loop-game-preserved c =
    let ps = c.args.self.now.positions.items in
    let games = c.args.games.now in
    let i = c.loop-game.game-index in
    let less = c.loop-game-test.true in
    let is = item_is games i c.game-item.result c.game-item.is less in
    record {
      positions = c.loop-game.invariant.positions;
      options = appended_next ps _ _ _ games i (get_or c.args.marks.now (get_or games i 0) 0) c.loop-game.invariant.options less
          (c.requires i 0 less).place
          (c.in_ok-push.ensures.items ∙ ap (λ z. c.loop-game.self.options.items ++ (get_or c.args.marks.now z 0 ∷ [])) (c.place.ensures.place ∙ is));
    }

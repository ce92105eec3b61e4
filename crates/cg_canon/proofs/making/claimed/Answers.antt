use Rattle.std.proofs.Common.{arith, ◌∙◌}
use Rattle.cg_nodes.proofs.Later.{stands_game, stands_is_game}
use Rattle.cg_canon.proofs.InternerSteps.{interner_later}
use Rattle.cg_canon.proofs.Charging.{canonical_node, cost_of_options, same_node}
use Rattle.cg_canon.proofs.making.claimed.Goals as goal

pub claimed_game-handle-requires-clause-canonical : goal.claimed_game-handle-requires-clause-canonical
claimed_game-handle-requires-clause-canonical g c = canonical_node _ _ _ _ c.requires.left_games c.requires.right_games c.requires.canonical

pub claimed_game-handle-requires-clause-spare : goal.claimed_game-handle-requires-clause-spare
claimed_game-handle-requires-clause-spare g c =
    let cost = cost_of_options (g.S.CellStore.state c.args.store.now) c.args.lefts.now c.args.rights.now _ _ c.args.new.now.summary
    c.requires.left_games c.requires.right_games c.requires.form.summary in
    omega (arith, cost, c.requires.spare)

pub enter_form-game-requires : goal.enter_form-game-requires
enter_form-game-requires g c =
    let s = g.S.CellStore.state c.args.store.now in
    let t = g.S.CellStore.state c.claimed_game-handle.new.store in
    let own = stands_game t c.claimed_game-handle.result _ c.claimed_game-handle.ensures.game
    ∙ same_node _ _ _ _ c.requires.left_games c.requires.right_games in
    record {
      holds = interner_later s t c.args.interner.now c.claimed_game-handle.ensures.spends.2.known c.requires.holds;
      game = stands_is_game t c.claimed_game-handle.result _ c.claimed_game-handle.ensures.game;
      canonical = rw own c.requires.canonical;
      form = rw own c.requires.form;
    }

pub returns-clause-game : goal.returns-clause-game
returns-clause-game g c =
    rw (← (same_node _ _ _ _ c.requires.left_games c.requires.right_games)) c.claimed_game-handle.ensures.game

pub returns-clause-spends : goal.returns-clause-spends
returns-clause-spends g c =
    let cost = cost_of_options (g.S.CellStore.state c.args.store.now) c.args.lefts.now c.args.rights.now _ _ c.args.new.now.summary
    c.requires.left_games c.requires.right_games c.requires.form.summary in
    let spends = c.claimed_game-handle.ensures.spends in
    (spends.0, omega (arith, cost, spends.1), spends.2)

pub returns-clause-at : goal.returns-clause-at
returns-clause-at g c =
    let t = g.S.CellStore.state c.claimed_game-handle.new.store in
    rw (← (stands_game t c.claimed_game-handle.result _ c.claimed_game-handle.ensures.game
    ∙ same_node _ _ _ _ c.requires.left_games c.requires.right_games)) c.enter_form-game.ensures.game

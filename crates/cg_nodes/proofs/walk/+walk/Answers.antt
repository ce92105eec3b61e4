use Rattle.std.proofs.Common.{◌++◌, ◌∷◌, [], ap, rules, arith}
use Rattle.std.specs.Prelude.{Err}
use Rattle.std.proofs.lemmas.Result.{err_from_is_err_and}
use Rattle.cg_form.specs.Depth.{deepest, depth_of}
use Rattle.cg_nodes.specs.Games.{game_at, games_at, listed}
use Rattle.cg_form.specs.Positions.{all_positions}
use Rattle.cg_nodes.specs.Walks.{AreFoundAfter}
use Rattle.cg_nodes.proofs.Later.{is_list_later, listed_later, spends_then}
use Rattle.cg_nodes.proofs.Lists.{head_end}
use Rattle.cg_nodes.proofs.Outcomes.{ok_at, ok_then, ok_within, passed_on}
use Rattle.cg_nodes.proofs.Walked.{before_length, found_at_top, found_later, found_next, found_there, left_length, lists_walked, next_length}
use Rattle.cg_nodes.proofs.Walked.{number_walked, right_length, top_depth, walking_all, walking_length, walking_more, walking_shorter}
use Rattle.cg_nodes.proofs.walk.+walk.Goals as goal

-- ---- a game

pub walk_game-returns-then-has-clause-found : goal.walk_game-returns-then-has-clause-found
walk_game-returns-then-has-clause-found g t c =
    found_there (g.S.CellStore.state c.args.store.now) c.args.found.now c.args.handle c.requires.found (c.has.ensures.0
    c.if-has.true)

pub walk_game-returns-in_err-walk_options-clause-refused : goal.walk_game-returns-in_err-walk_options-clause-refused
walk_game-returns-in_err-walk_options-clause-refused g t c =
    let p = err_from_is_err_and c.from_residual.result c.from_residual.ensures.1 in λ e.
    before_length (games_at (g.S.CellStore.state c.args.store.now) c.args.found.now) (game_at (g.S.CellStore.state
    c.args.store.now) c.args.handle) c.args.limit
    (c.in_err-walk_options.ensures.refused (ap Err (passed_on p.0 c.in_err-walk_options.field-0.0 c.from_residual.result p.1 p.2 e)))

pub walk_game-returns-clause-found : goal.walk_game-returns-clause-found
walk_game-returns-clause-found g t c =
    ok_at (λ more. AreFoundAfter (g.S.CellStore.state c.args.store.now) (g.S.CellStore.state
    c.walk_options.new.store) c.args.found.now more
    (all_positions (game_at (g.S.CellStore.state c.args.store.now) c.args.handle)))
    c.add.result c.add.new.self (c.walk_options.new.found ++ (c.args.handle ∷ [])) c.add.ensures.added
    (found_next (g.S.CellStore.state c.args.store.now) (g.S.CellStore.state c.walk_options.new.store) c.args.found.now
    c.walk_options.new.found c.args.handle
    c.walk_options.ensures.spends.known c.apart.ensures c.requires.found c.requires.game (λ m. let h =
    c.has.ensures.1 m in let n = c.if-has.false in cc) c.in_ok-walk_options.ensures.found)

pub walk_game-returns-clause-within : goal.walk_game-returns-clause-within
walk_game-returns-clause-within g t c =
    ok_within c.add.result c.add.new.self c.walk_options.new.found c.args.handle c.args.limit c.add.ensures.added c.add.ensures.within

pub walk_game-returns-clause-refused : goal.walk_game-returns-clause-refused
walk_game-returns-clause-refused g t c = λ e.
    let full = (c.add.ensures.refused e).0 in
    let n = next_length (g.S.CellStore.state c.args.store.now) (g.S.CellStore.state c.walk_options.new.store)
    c.args.found.now c.walk_options.new.found c.args.handle
    c.walk_options.ensures.spends.known c.apart.ensures c.requires.found c.requires.game (λ m. let h =
    c.has.ensures.1 m in let n = c.if-has.false in cc) c.in_ok-walk_options.ensures.found in
    omega arith

-- ---- a list

pub walk_list-walk_game-requires : goal.walk_list-walk_game-requires
walk_list-walk_game-requires g t c κs within =
    let d = top_depth _ _ _ _ _ _ _ _ c.in-Some.top
    c.loop-top.invariant c.head.ensures.spends c.in-Some.ensures.head in
    let f = found_at_top _ _ _ _ _ _ _ _ c.in-Some.top
    c.loop-top.invariant c.head.ensures.spends c.in-Some.ensures.head in
    (search rules, (within.0, (within.1.0, (within.1.1, (c.in-Some.ensures.head.0, (f, c.loop-top.invariant.within))))))

pub walk_list-returns-in_err-walk_game-clause-refused : goal.walk_list-returns-in_err-walk_game-clause-refused
walk_list-returns-in_err-walk_game-clause-refused g t c =
    let p = err_from_is_err_and c.from_residual.result c.from_residual.ensures.1 in λ e.
    walking_length _ _ _ _ _ _ _ _ c.in-Some.top
    c.loop-top.invariant c.head.ensures.spends c.in-Some.ensures.head c.args.limit
    (c.in_err-walk_game.ensures.refused (ap Err (passed_on p.0 c.in_err-walk_game.field-0.0 c.from_residual.result p.1 p.2 e)))

pub walk_list-loop-top-smaller : goal.walk_list-loop-top-smaller
walk_list-loop-top-smaller g t c =
    walking_shorter _ _ _ _ _ _ _ _ c.in-Some.top
    c.loop-top.invariant c.head.ensures.spends c.in-Some.ensures.head _ _
    c.walk_game.ensures.spends c.in_ok-walk_game.ensures.found c.in_ok-walk_game.ensures.within

pub walk_list-loop-top-preserved : goal.walk_list-loop-top-preserved
walk_list-loop-top-preserved g t c =
    walking_more _ _ _ _ _ _ _ _ c.in-Some.top
    c.loop-top.invariant c.head.ensures.spends c.in-Some.ensures.head _ _
    c.walk_game.ensures.spends c.in_ok-walk_game.ensures.found c.in_ok-walk_game.ensures.within

pub walk_list-returns-clause-found : goal.walk_list-returns-clause-found
walk_list-returns-clause-found g t c =
    walking_all _ _ _ _ _ _ _ _ c.loop-top.invariant c.head.ensures.spends
    (head_end (g.S.CellStore.state c.head.new.store) c.head.result (listed (g.S.CellStore.state c.loop-top.store) c.loop-top.left)
    c.in_default.not-Some c.head.ensures.head)

-- ---- the options of a game

pub walk_options-walk_list-requires : goal.walk_options-walk_list-requires
walk_options-walk_list-requires g t c κs within =
    let d = ap depth_of c.in-Game.ensures.game.2 in
    let f = found_later (g.S.CellStore.state c.args.store.now) (g.S.CellStore.state c.read.new.store) c.args.found.now
    c.read.ensures.spends.known c.requires.found in
    (search rules, (within.0, (within.1.0, (within.1.1, (c.in-Game.ensures.game.0, (f, c.requires.within))))))

pub walk_options-returns-in_err-walk_list-in-Game-clause-refused :
    goal.walk_options-returns-in_err-walk_list-in-Game-clause-refused
walk_options-returns-in_err-walk_list-in-Game-clause-refused g t c =
    let p = err_from_is_err_and c.from_residual.result c.from_residual.ensures.1 in λ e.
    left_length _ _ _ c.args.handle c.in-Game.lefts c.in-Game.rights c.read.ensures.spends c.requires.found
    c.in-Game.ensures.game c.args.limit
    (c.in_err-walk_list-in-Game.ensures.refused (ap Err (passed_on p.0 c.in_err-walk_list-in-Game.field-0.0
    c.from_residual.result p.1 p.2 e)))

pub walk_options-returns-in_err-walk_list-in-Game-clause-spends :
    goal.walk_options-returns-in_err-walk_list-in-Game-clause-spends
walk_options-returns-in_err-walk_list-in-Game-clause-spends g t c = spends_then 0 0 _ _ _ c.read.ensures.spends
    c.walk_list.ensures.spends

pub walk_options-walk_list-requires-in-Game : goal.walk_options-walk_list-requires-in-Game
walk_options-walk_list-requires-in-Game g t c κs within =
    let d = ap depth_of c.in-Game.ensures.game.2 in
    let known = c.walk_list.ensures.spends.known in
    let e = ap deepest (listed_later (g.S.CellStore.state c.read.new.store) (g.S.CellStore.state
    c.walk_list.new.store) known c.in-Game.rights c.in-Game.ensures.game.1) in
    let l = is_list_later (g.S.CellStore.state c.read.new.store) (g.S.CellStore.state c.walk_list.new.store)
    known c.in-Game.rights c.in-Game.ensures.game.1 in
    let ok = c.in_ok-walk_list-in-Game.ensures in
    (search rules, (within.0, (within.1.0, (within.1.1, (l, (ok.found.found, ok.within))))))

pub walk_options-returns-in-Number-clause-found : goal.walk_options-returns-in-Number-clause-found
walk_options-returns-in-Number-clause-found g t c =
    number_walked (g.S.CellStore.state c.args.store.now) (g.S.CellStore.state c.read.new.store) c.args.found.now
    c.args.handle _ c.read.ensures.spends.known c.requires.found c.in-Number.ensures.game

pub walk_options-returns-in_ok-walk_list-in-Game-clause-found :
    goal.walk_options-returns-in_ok-walk_list-in-Game-clause-found
walk_options-returns-in_ok-walk_list-in-Game-clause-found g t c =
    ok_then c.walk_list-in-Game.result
    (lists_walked _ _ _ c.args.handle c.in-Game.lefts c.in-Game.rights c.read.ensures.spends c.requires.found
    c.in-Game.ensures.game _ _ c.walk_list.ensures.spends c.in_ok-walk_list-in-Game.ensures.found _ _)
    c.walk_list-in-Game.ensures.found

pub walk_options-returns-in_ok-walk_list-in-Game-clause-refused :
    goal.walk_options-returns-in_ok-walk_list-in-Game-clause-refused
walk_options-returns-in_ok-walk_list-in-Game-clause-refused g t c = λ e.
    right_length _ _ _ c.args.handle c.in-Game.lefts c.in-Game.rights c.read.ensures.spends c.requires.found
    c.in-Game.ensures.game _ _ c.walk_list.ensures.spends c.in_ok-walk_list-in-Game.ensures.found c.args.limit
    (c.walk_list-in-Game.ensures.refused e)

pub walk_options-returns-in_ok-walk_list-in-Game-clause-spends : goal.walk_options-returns-in_ok-walk_list-in-Game-clause-spends
walk_options-returns-in_ok-walk_list-in-Game-clause-spends g t c =
    spends_then 0 0 _ _ _ (spends_then 0 0 _ _ _ c.read.ensures.spends c.walk_list.ensures.spends)
    c.walk_list-in-Game.ensures.spends

use Rattle.std.proofs.Common.{◌∙◌, ap, sym, rules, arith, length}
use Rattle.std.specs.Prelude.{Err}
use Rattle.std.proofs.lemmas.List.{length_push}
use Rattle.std.proofs.lemmas.Result.{err_from_is_err_and}
use Rattle.cg_form.specs.Game.{Among}
use Rattle.cg_form.proofs.AllPositions.{closed_there}
use Rattle.cg_nodes.proofs.Outcomes.{ok_then, passed_on}
use Rattle.cg_nodes.proofs.Walked.{before_length}
use Rattle.cg_arena.specs.Arena.{game_of}
use Rattle.cg_arena.proofs.Depths.{item_depth}
use Rattle.cg_arena.proofs.Slices.{index_of_item, item_is}
use Rattle.cg_canon.specs.Walking.{found_in}
use Rattle.cg_canon.proofs.WalkPlaces.{found_length, marked_place, place_there}
use Rattle.cg_canon.proofs.WalkSteps.{before_there, left_longer, next_found, next_longer}
use Rattle.cg_canon.proofs.WalkSteps.{next_more, next_walk, not_yet, right_longer, sides_walked, walked_next}
use Rattle.cg_canon.proofs.walking.+walk.Goals as goal

-- ---- a game

pub walk_game-returns-then-has-clause-all : goal.walk_game-returns-then-has-clause-all
walk_game-returns-then-has-clause-all t c =
    let gs = c.args.arena.now in
    let ps = c.args.walk.now.positions.items in
    sym (closed_there (found_in gs ps) (game_of gs c.args.game) c.requires.stands.closed (place_there gs c.args.marks.now ps c.args.game
    c.requires.stands.marked _ (c.has.ensures.found c.if-has.true)))

pub walk_game-returns-in_err-walk_options-clause-refused : goal.walk_game-returns-in_err-walk_options-clause-refused
walk_game-returns-in_err-walk_options-clause-refused t c =
    let p = err_from_is_err_and c.from_residual.result c.from_residual.ensures.1 in λ e.
    let r = c.in_err-walk_options.ensures.refused
    (ap Err (passed_on p.0 c.in_err-walk_options.field-0.0 c.from_residual.result p.1 p.2 e)) in (
      before_length (found_in c.args.arena.now c.args.walk.now.positions.items) (game_of c.args.arena.now c.args.game) c.args.limit r.0,
      r.1,
    )

pub walk_game-position-requires-clause-found : goal.walk_game-position-requires-clause-found
walk_game-position-requires-clause-found t c =
    let gs = c.args.arena.now in
    before_there (found_in gs c.args.walk.now.positions.items) (found_in gs c.walk_options.new.walk.positions.items) (game_of gs c.args.game)
    (λ m. c.has.ensures.none c.if-has.false (marked_place gs c.args.marks.now c.args.walk.now.positions.items c.args.game c.requires.stands.marked
    c.requires.apart c.requires.game m)) c.in_ok-walk_options.ensures.all

pub walk_game-returns-clause-stands : goal.walk_game-returns-clause-stands
walk_game-returns-clause-stands t c =
    let gs = c.args.arena.now in
    let ps = c.args.walk.now.positions.items in
    let qs = c.walk_options.new.walk.positions.items in
    let g = game_of gs c.args.game in
    let out : ¬ Among g (found_in gs ps) =
    λ m. c.has.ensures.none c.if-has.false (marked_place gs c.args.marks.now ps c.args.game c.requires.stands.marked c.requires.apart c.requires.game m) in
    let walked = c.in_ok-walk_options.ensures.all in
    next_walk gs c.walk_options.new.marks c.add.new.marks qs c.position.new.self.positions.items c.add.new.self.positions.items
    c.walk_options.new.walk.options.items c.in_ok-position.ensures.more.0 c.position.new.self.options.items c.add.new.self.options.items
    c.in_ok-position.position c.args.game c.position.ensures.positions c.in_ok-add.ensures.positions c.in_ok-position.ensures.game
    c.in_ok-walk_options.ensures.stands c.requires.game c.in_ok-position.ensures.canonical
    (before_there (found_in gs ps) (found_in gs qs) g out walked) (not_yet (found_in gs ps) (found_in gs qs) g out walked)
    c.in_ok-position.ensures.more.1 c.add.ensures.options c.in_ok-position.ensures.place c.add.ensures.room c.in_ok-add.ensures.own
    c.in_ok-add.ensures.others

pub walk_game-returns-clause-all : goal.walk_game-returns-clause-all
walk_game-returns-clause-all t c =
    let gs = c.args.arena.now in
    let ps = c.args.walk.now.positions.items in
    next_found gs c.walk_options.new.marks c.add.new.marks c.walk_options.new.walk.positions.items c.position.new.self.positions.items
    c.add.new.self.positions.items c.walk_options.new.walk.options.items c.in_ok-position.ensures.more.0 c.position.new.self.options.items
    c.add.new.self.options.items c.in_ok-position.position c.args.game c.position.ensures.positions c.in_ok-add.ensures.positions
    c.in_ok-position.ensures.game (found_in gs ps)
    (λ m. c.has.ensures.none c.if-has.false (marked_place gs c.args.marks.now ps c.args.game c.requires.stands.marked c.requires.apart
    c.requires.game m)) c.in_ok-walk_options.ensures.all

pub walk_game-returns-clause-within : goal.walk_game-returns-clause-within
walk_game-returns-clause-within t c =
    let n = ap length c.in_ok-add.ensures.positions in
    let m = length_push c.position.new.self.positions.items c.in_ok-position.position in
    let l = c.in_ok-add.ensures.within in
    omega arith

pub walk_game-returns-in_err-add-clause-refused : goal.walk_game-returns-in_err-add-clause-refused
walk_game-returns-in_err-add-clause-refused t c =
    let gs = c.args.arena.now in
    let ps = c.args.walk.now.positions.items in
    let qs = c.walk_options.new.walk.positions.items in
    let p = err_from_is_err_and c.from_residual-in_err-add.result c.from_residual-in_err-add.ensures.1 in λ e.
    let r = c.in_err-add.ensures.refused
    (ap Err (passed_on p.0 c.in_err-add.field-0.0 c.from_residual-in_err-add.result p.1 p.2 e)) in (
      next_more (found_in gs ps) (found_in gs qs) (game_of gs c.args.game)
          (λ m. c.has.ensures.none c.if-has.false (marked_place gs c.args.marks.now ps c.args.game c.requires.stands.marked c.requires.apart
          c.requires.game m)) c.in_ok-walk_options.ensures.all c.args.limit (r.0 ∙ ap length c.position.ensures.positions ∙ sym (found_length gs qs)),
      r.1,
    )

-- ---- the options of a game

pub walk_options-returns-in_err-walk_games-in-Options-clause-refused : goal.walk_options-returns-in_err-walk_games-in-Options-clause-refused
walk_options-returns-in_err-walk_games-in-Options-clause-refused t c =
    let p = err_from_is_err_and c.from_residual.result c.from_residual.ensures.1 in λ e.
    let r = c.in_err-walk_games-in-Options.ensures.refused
    (ap Err (passed_on p.0 c.in_err-walk_games-in-Options.field-0.0 c.from_residual.result p.1 p.2 e)) in (
      left_longer c.args.arena.now (found_in c.args.arena.now c.args.walk.now.positions.items) (game_of c.args.arena.now c.args.game)
          c.in-Options.lefts.now c.in-Options.rights.now c.in-Options.ensures.read.2 c.args.limit r.0,
      r.1,
    )

pub walk_options-returns-in_ok-walk_games-in-Options-clause-all : goal.walk_options-returns-in_ok-walk_games-in-Options-clause-all
walk_options-returns-in_ok-walk_games-in-Options-clause-all t c =
    let gs = c.args.arena.now in
    ok_then c.walk_games-in-Options.result
    (λ e. e ∙ sides_walked gs (found_in gs c.args.walk.now.positions.items) (game_of gs c.args.game) c.in-Options.lefts.now c.in-Options.rights.now
    c.in-Options.ensures.read.2 (found_in gs c.walk_games.new.walk.positions.items) c.in_ok-walk_games-in-Options.ensures.all)
    c.walk_games-in-Options.ensures.all

pub walk_options-returns-in_ok-walk_games-in-Options-clause-refused : goal.walk_options-returns-in_ok-walk_games-in-Options-clause-refused
walk_options-returns-in_ok-walk_games-in-Options-clause-refused t c = λ e.
    let gs = c.args.arena.now in
    let r = c.walk_games-in-Options.ensures.refused e in (
      right_longer gs (found_in gs c.args.walk.now.positions.items) (game_of gs c.args.game) c.in-Options.lefts.now c.in-Options.rights.now
          c.in-Options.ensures.read.2 (found_in gs c.walk_games.new.walk.positions.items) c.in_ok-walk_games-in-Options.ensures.all c.args.limit r.0,
      r.1,
    )

-- ---- a list of games

pub walk_games-walk_game-requires : goal.walk_games-walk_game-requires
walk_games-walk_game-requires t c =
    let arena = c.args.arena.now in
    let is = item_is c.args.games.now c.loop-game.game-index _ c.game-item.is c.loop-game-test.true in
    let n = item_depth arena c.args.games.now c.loop-game.game-index _ c.loop-game-test.true is in
    let p = index_of_item arena c.args.games.now c.loop-game.game-index _ c.requires.games c.loop-game-test.true is in
    (search rules, (c.requires.apart, (p, (c.loop-game.invariant.stands, c.loop-game.invariant.within))))

pub walk_games-returns-in_err-walk_game-clause-refused : goal.walk_games-returns-in_err-walk_game-clause-refused
walk_games-returns-in_err-walk_game-clause-refused t c =
    let gs = c.args.arena.now in
    let is = item_is c.args.games.now c.loop-game.game-index _ c.game-item.is c.loop-game-test.true in
    let p = err_from_is_err_and c.from_residual.result c.from_residual.ensures.1 in λ e.
    let r = c.in_err-walk_game.ensures.refused
    (ap Err (passed_on p.0 c.in_err-walk_game.field-0.0 c.from_residual.result p.1 p.2 e)) in (
      next_longer gs (found_in gs c.args.walk.now.positions.items) (found_in gs c.loop-game.walk.positions.items) c.args.games.now
          c.loop-game.game-index _ c.loop-game-test.true is c.loop-game.invariant.walked c.args.limit r.0,
      r.1,
    )

pub walk_games-loop-game-preserved : goal.walk_games-loop-game-preserved
walk_games-loop-game-preserved t c =
    let gs = c.args.arena.now in
    let is = item_is c.args.games.now c.loop-game.game-index _ c.game-item.is c.loop-game-test.true in record {
      stands = c.in_ok-walk_game.ensures.stands;
      walked = c.in_ok-walk_game.ensures.all ∙ walked_next gs (found_in gs c.args.walk.now.positions.items)
          (found_in gs c.loop-game.walk.positions.items) c.args.games.now c.loop-game.game-index _ c.loop-game-test.true is
          c.loop-game.invariant.walked;
      room = c.walk_game.ensures.room ∙ c.loop-game.invariant.room;
      within = c.in_ok-walk_game.ensures.within;
    }

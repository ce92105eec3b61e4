use Rattle.std.proofs.Common.{ap}
use Rattle.std.specs.Prelude.{Err}
use Rattle.std.proofs.lemmas.Result.{err_from_is_err_and}
use Rattle.cg_nodes.proofs.Outcomes.{passed_on}
use Rattle.cg_nodes.proofs.Walked.{found_positions, found_within, none_length}
use Rattle.cg_nodes.proofs.walk.positions.Goals as goal

pub returns-in_err-walk_game-clause-refused : goal.returns-in_err-walk_game-clause-refused
returns-in_err-walk_game-clause-refused g c =
    let p = err_from_is_err_and c.from_residual-in_err-walk_game.result c.from_residual-in_err-walk_game.ensures.1 in λ e.
    none_length (g.S.CellStore.state c.args.store.now) c.args.handle c.in_ok-found.found c.args.limit c.in_ok-found.ensures
    (c.in_err-walk_game.ensures.refused (ap Err (passed_on p.0 c.in_err-walk_game.field-0.0 c.from_residual-in_err-walk_game.result p.1 p.2 e)))

pub returns-clause-positions : goal.returns-clause-positions
returns-clause-positions g c =
    found_positions (g.S.CellStore.state c.args.store.now) (g.S.CellStore.state c.walk_game.new.store) c.args.handle
    c.in_ok-found.found c.walk_game.new.found c.into_handles.result
    c.in_ok-found.ensures c.into_handles.ensures c.in_ok-walk_game.ensures.found

pub returns-clause-within : goal.returns-clause-within
returns-clause-within g c =
    found_within (g.S.CellStore.state c.args.store.now) (g.S.CellStore.state c.walk_game.new.store) c.args.handle
    c.in_ok-found.found c.walk_game.new.found c.args.limit
    c.in_ok-found.ensures c.in_ok-walk_game.ensures.found c.in_ok-walk_game.ensures.within

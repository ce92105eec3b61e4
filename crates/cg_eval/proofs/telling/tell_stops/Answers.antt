use Rattle.std.specs.Prelude.{string_bytes}
use Rattle.cg_canon.specs.Works.{work_state}
use Rattle.cg_nodes.specs.Games.{game_at}
use Rattle.cg_eval.proofs.Told.{told-stops}
use Rattle.cg_eval.proofs.telling.tell_stops.Goals as goal

pub returns-clause-told : goal.returns-clause-told
returns-clause-told g c =
    told-stops (game_at (work_state g.S.CellStore.state c.args.work.now) c.args.a) c.args.a c.in_ok-found.found
    (string_bytes c.in_ok-text.text) c.answer_of.result c.in_ok-found.ensures.stops c.in_ok-text.ensures
    c.answer_of.ensures.text c.answer_of.ensures.value

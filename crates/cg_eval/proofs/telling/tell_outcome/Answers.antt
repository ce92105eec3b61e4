use Rattle.std.proofs.Common.{◌∙◌}
use Rattle.std.specs.Prelude.{string_bytes}
use Rattle.cg_canon.specs.Works.{work_state}
use Rattle.cg_nodes.specs.Games.{game_at}
use Rattle.cg_eval.proofs.Told.{told-outcome}
use Rattle.cg_eval.proofs.telling.tell_outcome.Goals as goal

pub returns-clause-told : goal.returns-clause-told
returns-clause-told g c =
    told-outcome (game_at (work_state g.S.CellStore.state c.args.work.now) c.args.a) c.args.a c.in_ok-wins.wins
    (string_bytes c.in_ok-text.text) c.answer_of.result c.in_ok-wins.ensures.outcome (c.in_ok-text.ensures.ok
    ∙ c.winner.ensures) c.answer_of.ensures.text c.answer_of.ensures.value

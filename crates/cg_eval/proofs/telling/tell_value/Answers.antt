use Rattle.std.specs.Prelude.{string_bytes}
use Rattle.cg_canon.specs.Works.{work_state}
use Rattle.cg_nodes.specs.Games.{game_at}
use Rattle.cg_eval.proofs.Told.{told-value}
use Rattle.cg_eval.proofs.telling.tell_value.Goals as goal

pub returns-clause-told : goal.returns-clause-told
returns-clause-told g c =
    told-value (game_at (work_state g.S.CellStore.state c.args.work.now) c.args.a) c.args.a (string_bytes c.in_ok-text.text)
    c.answer_of.result c.in_ok-text.ensures.name c.answer_of.ensures.text c.answer_of.ensures.value

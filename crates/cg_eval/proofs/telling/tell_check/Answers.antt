use Rattle.std.proofs.Common.{◌∙◌}
use Rattle.std.specs.Prelude.{string_bytes}
use Rattle.cg_canon.specs.Works.{work_state}
use Rattle.cg_nodes.specs.Games.{game_at}
use Rattle.cg_eval.proofs.Told.{told-check}
use Rattle.cg_eval.proofs.telling.tell_check.Goals as goal

pub returns-clause-told : goal.returns-clause-told
returns-clause-told g c =
    let s = work_state g.S.CellStore.state c.args.work.now in
    told-check (game_at s c.args.a) (game_at s c.args.b) c.args.a c.args.proof.now c.answer_of.result
    (string_bytes c.in_ok-text.text) c.in_ok-proves.proves c.answer_of.ensures.text c.answer_of.ensures.value
    (c.in_ok-text.ensures.ok ∙ c.yes_or_no.ensures) c.in_ok-proves.ensures.proof

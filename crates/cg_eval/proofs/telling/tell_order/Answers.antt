use Rattle.std.proofs.Common.{ap, ◌∙◌}
use Rattle.std.specs.Prelude.{string_bytes}
use Rattle.cg_canon.specs.Works.{work_state}
use Rattle.cg_nodes.specs.Games.{game_at}
use Rattle.cg_eval.specs.Parts.{IsCompared}
use Rattle.cg_eval.specs.Reply.{answer}
use Rattle.cg_eval.proofs.Told.{told-two}
use Rattle.cg_eval.proofs.telling.tell_order.Goals as goal

pub returns-clause-told : goal.returns-clause-told
returns-clause-told g c =
    let s = work_state g.S.CellStore.state c.args.work.now in
    told-two c.args.a (IsCompared (game_at s c.args.a) (game_at s c.args.b)) c.answer_of.result
    (string_bytes c.in_ok-text.text) c.answer_of.ensures.text c.answer_of.ensures.value
    (ap answer (c.in_ok-text.ensures.ok ∙ c.in_ok-order.ensures.text))

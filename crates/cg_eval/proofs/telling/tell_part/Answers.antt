use Rattle.std.specs.Prelude.{string_bytes}
use Rattle.cg_canon.specs.Works.{work_state}
use Rattle.cg_nodes.specs.Games.{game_at}
use Rattle.cg_eval.specs.Reply.{too_fine}
use Rattle.cg_eval.specs.Refused.{IsRefusedBy}
use Rattle.cg_eval.specs.Parts.{Tells}
use Rattle.cg_eval.specs.declared.telling.Asked.TheVariants as asking
use Rattle.cg_eval.proofs.Replies.{if_ok_map}
use Rattle.cg_eval.proofs.Told.{drawn-none, drawn-some, told-part, told-too_fine}
use Rattle.cg_eval.proofs.telling.tell_part.Goals as goal

pub returns-in-Some-clause-told : goal.returns-in-Some-clause-told
returns-in-Some-clause-told g c =
    let game = game_at (work_state g.S.CellStore.state c.args.work.now) c.args.a in
    told-part game c.args.a c.args.part (string_bytes c.in-Some.text) c.answer_of.result (drawn-some c.args.part game
    c.in_ok-found.found c.in-Some.text c.in-Some.is c.in_ok-found.ensures.drawn) c.answer_of.ensures.text
    c.answer_of.ensures.value

pub returns-in-None-clause-told : goal.returns-in-None-clause-told
returns-in-None-clause-told g c =
    let game = game_at (work_state g.S.CellStore.state c.args.work.now) c.args.a in
    if_ok_map (IsRefusedBy too_fine) (Tells game c.args.a (asking.Picture c.args.part)) c.refuse.result
    (λ a h. told-too_fine game c.args.a c.args.part a (drawn-none c.args.part game c.in_ok-found.found c.in-None.is
    c.in_ok-found.ensures.drawn) h) c.refuse.ensures

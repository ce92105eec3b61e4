use Rattle.std.specs.Prelude.{string_bytes}
use Rattle.cg_canon.specs.Works.{work_state}
use Rattle.cg_nodes.specs.Games.{game_at}
use Rattle.cg_cert.specs.Answer.{IsLong}
use Rattle.cg_eval.specs.Parts.{TellsTwo}
use Rattle.cg_eval.specs.Refused.{IsRefusedBy}
use Rattle.cg_eval.specs.Reply.{IsProofTold, too_long}
use Rattle.cg_eval.proofs.Replies.{if_ok_map}
use Rattle.cg_eval.proofs.Told.{told-proof, told-too_long}
use Rattle.cg_eval.proofs.telling.tell_proof.Goals as goal

pub returns-in-Ok-clause-told : goal.returns-in-Ok-clause-told
returns-in-Ok-clause-told g c =
    let s = work_state g.S.CellStore.state c.args.work.now in
    told-proof (game_at s c.args.a) (game_at s c.args.b) c.args.a c.answer_of.result (string_bytes c.in-Ok.text)
    c.answer_of.ensures.text c.answer_of.ensures.value c.in-Ok.ensures.proved.0 c.in-Ok.ensures.proved.1

pub returns-in-Err-Long-clause-told : goal.returns-in-Err-Long-clause-told
returns-in-Err-Long-clause-told g c =
    let s = work_state g.S.CellStore.state c.args.work.now in
    let a = game_at s c.args.a in
    let b = game_at s c.args.b in
    let long : IsLong a b = rw c.in-Err-Long.field-0-is at c.in-Err-Long.ensures.proved in
    if_ok_map (IsRefusedBy too_long) (TellsTwo c.args.a (IsProofTold a b)) c.refuse.result
    (λ z h. told-too_long a b c.args.a z long h) c.refuse.ensures

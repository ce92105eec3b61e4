use Rattle.std.proofs.Common.{IfOk, Option, sym, ◌∙◌, subst}
use Rattle.cg_eval.specs.Refused.{IsRefusedOver}
use Rattle.cg_eval.specs.declared.fault.GameFault.{GameFault}
use Rattle.cg_eval.proofs.reply.refuse_item.Goals as goal

pub returns-in-Some : goal.returns-in-Some
returns-in-Some c =
    let P : Option GameFault → Type 0 = λ o. IfOk c.refuse_board.result (IsRefusedOver o c.args.fault) in
    subst P (sym c.in-Some.is ∙ c.in_ok-found.ensures) c.refuse_board.ensures

pub returns-in-None : goal.returns-in-None
returns-in-None c =
    let P : Option GameFault → Type 0 = λ o. IfOk c.refuse_value.result (IsRefusedOver o c.args.fault) in
    subst P (sym c.in-None.is ∙ c.in_ok-found.ensures) c.refuse_value.ensures

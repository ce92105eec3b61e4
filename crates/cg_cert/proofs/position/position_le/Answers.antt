use Rattle.std.proofs.Common.{ap, sym, ◌∙◌}
use Rattle.cg_form.specs.Game.{number}
use Rattle.cg_form.specs.Order.{le}
use Rattle.cg_form.proofs.LeSteps.{le_of_numbers}
use Rattle.cg_cert.specs.Positions.{position_at}
use Rattle.cg_cert.proofs.position.position_le.Goals as goal

pub returns-in-Number-b-clause-order : goal.returns-in-Number-b-clause-order
returns-in-Number-b-clause-order g c =
    let p = position_at c.args.work.now.arena in
    c.le.ensures.value ∙ le_of_numbers c.in-Number.x c.in-Number-b.y
    ∙ ap (λ z. le (p z) (number c.in-Number-b.y)) (sym c.in-Number.is) ∙ ap (λ z. le (p c.args.a.now) (p z)) (sym c.in-Number-b.is)

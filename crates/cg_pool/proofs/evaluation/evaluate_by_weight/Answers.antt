use Rattle.std.proofs.Common.{rules, ◌≡◌, ℕ, ap, sym, subst, ◌∙◌, length}
use Rattle.std.specs.Prelude.{if◌then◌else◌, nat_lt}
use Rattle.std.proofs.lemmas.List.Elements.{All-contains}
use Rattle.cg_shared.specs.Passes.{pass_state}
use Rattle.cg_cells.specs.Table.{HasAllTickets, times}
use Rattle.cg_pool.specs.Answers.{IsOrder}
use Rattle.cg_pool.proofs.Orders.{answered_once}
use Rattle.cg_pool.proofs.evaluation.evaluate_by_weight.Goals as goal

pub put_in_order-requires : goal.put_in_order-requires
put_in_order-requires g c = λ n.
    let all : HasAllTickets c.in_ok-answers.pass.sees = c.each_ticket_once.ensures.all (search rules) (search rules) in
    let lines : c.in_ok-answers.pass.sees.sizes.lines ≡ length c.args.weights.now = search rules in
    ap (times n) c.in_ok-answers.ensures.tickets
    ∙ answered_once (length c.args.weights.now) c.deref.result.now c.in_ok-answers.pass.sees.tickets
    (subst (IsOrder (length c.args.weights.now)) (sym c.deref.ensures.value) c.in_ok-order.ensures.order)
    (λ t. all t ∙ ap (λ (m : ℕ). if nat_lt t m then 1 else 0) lines) n

pub returns-clause-pass : goal.returns-clause-pass
returns-clause-pass g c =
    let all : HasAllTickets c.in_ok-answers.pass.sees = c.each_ticket_once.ensures.all (search rules) (search rules) in (search rules, all)

pub returns-clause-good : goal.returns-clause-good
returns-clause-good g c = λ n answer e.
    All-contains (λ (a : ℕ × g.row.J-Answer.Denot). g.J.CachingJob.good c.args.job.now a.0 a.1 (pass_state c.in_ok-answers.pass).known)
    c.in_ok-answers.answers.items (n, answer)
    c.in_ok-answers.ensures.are_good (c.in_ok-answers-2.ensures.each n answer e)

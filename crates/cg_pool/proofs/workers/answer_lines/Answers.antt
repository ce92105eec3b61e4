use Rattle.std.proofs.Common.{rules, ◌+◌}
use Rattle.cg_cells.specs.Table.{passes_of}
use Rattle.cg_shared.specs.Passes.{pass_state}
use Rattle.cg_pool.proofs.Orders.{line_inside}
use Rattle.cg_pool.proofs.Bringing.{drawn_knows, sets_out, goes_on, comes_back}
use Rattle.cg_pool.proofs.workers.answer_lines.Goals as goal

pub loop-ticket-init : goal.loop-ticket-init
loop-ticket-init g c =
    let stays = (g.met.J.CachingJob g.world.𝓛 g.world.𝓜 g.world.𝓡 ((λ s x. x), (λ x. x), (λ x. x), (λ x. x))).stays in (
      sets_out (g.J.CachingJob.good c.args.job.now) (λ n a f h. stays c.args.job.now n a f h) c.args.order.now c.args.cells.now
          c.new-answers.result.items c.args.pass c.new-answers.ensures.items c.requires.own c.requires.new,
      c.start-cache.ensures (pass_state c.args.pass).known,
    )

pub answer_line-done-requires-clause-index : goal.answer_line-done-requires-clause-index
answer_line-done-requires-clause-index g c κs within =
    let inside = line_inside c.args.cells.now.sizes.lines c.args.order.now c.in-Some.field-0.0 c.requires.each (search rules) in search rules

pub answer_line-done-requires-clause-cache : goal.answer_line-done-requires-clause-cache
answer_line-done-requires-clause-cache g c =
    let holding = (g.met.J.CachingJob g.world.𝓛 g.world.𝓜 g.world.𝓡 ((λ s x. x), (λ x. x), (λ x. x), (λ x. x))).holding in
    let before = c.loop-ticket.pass in
    let after = c.draw.new.pass in
    let grows = drawn_knows c.in-Some.field-0.0 (before.sees.spare + c.args.cells.now.sizes.share) before.sees after.sees c.in-Some.ensures.drew.1 in
    λ lives outlive. holding c.loop-ticket.cache (pass_state before).known (pass_state after).known grows c.loop-ticket.invariant.1

pub returns-in_default : goal.returns-in_default
returns-in_default g c =
    let stays = (g.met.J.CachingJob g.world.𝓛 g.world.𝓜 g.world.𝓡 ((λ s x. x), (λ x. x), (λ x. x), (λ x. x))).stays in
    comes_back (g.J.CachingJob.good c.args.job.now) (λ n a f h. stays c.args.job.now n a f h) c.args.order.now c.args.cells.now (passes_of c.args.pass.sees)
    c.loop-ticket.answers.items c.loop-ticket.pass c.draw.new.pass c.loop-ticket.invariant.0 c.in_default.ensures.own c.in_default.ensures.drew

pub loop-ticket-preserved : goal.loop-ticket-preserved
loop-ticket-preserved g c =
    let stays = (g.met.J.CachingJob g.world.𝓛 g.world.𝓜 g.world.𝓡 ((λ s x. x), (λ x. x), (λ x. x), (λ x. x))).stays in (
      goes_on (g.J.CachingJob.good c.args.job.now) (λ n a f h. stays c.args.job.now n a f h) c.args.order.now c.args.cells.now (passes_of c.args.pass.sees)
          c.in-Some.field-0.0 (c.loop-ticket.pass.sees.spare + c.args.cells.now.sizes.share) c.loop-ticket.answers.items c.push.new.self.items
          c.in_ok-answer.answer
          c.loop-ticket.pass c.draw.new.pass c.in_ok-answer.after c.loop-ticket.invariant.0 c.in-Some.ensures.drew.1 c.in_ok-answer.ensures.answer
          c.in_ok-push.ensures.items,
      c.in_ok-answer.ensures.cache,
    )

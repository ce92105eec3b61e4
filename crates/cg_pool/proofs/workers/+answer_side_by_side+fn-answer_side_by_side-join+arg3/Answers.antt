use Rattle.std.proofs.Common.{IfOk, subst}
use Rattle.cg_cells.specs.Table.{passes_of}
use Rattle.cg_pool.specs.Answers.{IsBrought}
use Rattle.cg_pool.proofs.Bringing.{brought_both, split_passes}
use Rattle.cg_pool.proofs.workers.+answer_side_by_side+fn-answer_side_by_side-join+arg3.Goals as goal

pub returns : goal.returns
returns g t c =
    let good = g.J.CachingJob.good c.args.job.now in
    let stays = (g.met.J.CachingJob g.world.𝓛 g.world.𝓜 g.world.𝓡 ((λ s x. x), (λ x. x), (λ x. x), (λ x. x))).stays in
    let one = subst (λ o. IfOk o (λ r. IsBrought (g.J.CachingJob.good c.args.job.now) c.args.order.now c.args.cells.now (passes_of c.split-other.new.pass.sees)
    r.0.items
    r.1)) c.in_ok-answers.was c.join-mine.ensures.first in
    let other = subst (λ o. IfOk o (λ r. IsBrought (g.J.CachingJob.good c.args.job.now) c.args.order.now c.args.cells.now (passes_of c.split-other.result.sees)
    r.0.items
    r.1)) c.in_ok-more.was c.join-mine.ensures.second in
    subst (λ n. IsBrought (g.J.CachingJob.good c.args.job.now) c.args.order.now c.args.cells.now n c.in_ok-append.field-0.items c.meet.new.pass)
    (split_passes c.args.workers c.args.pass.sees c.split-other.new.pass.sees c.split-other.result.sees c.requires.workers c.if-workers-le1.false
    c.split-other.ensures.old.1 c.split-other.ensures.new.1)
    (brought_both (g.J.CachingJob.good c.args.job.now) (λ n a f h. stays c.args.job.now n a f h) c.args.order.now c.args.cells.now
    (passes_of c.split-other.new.pass.sees)
    (passes_of c.split-other.result.sees)
    c.in_ok-answers.answers.items c.in_ok-more.more.items c.in_ok-append.field-0.items c.in_ok-answers.pass c.in_ok-more.met c.meet.new.pass one
    other c.meet.ensures.own c.meet.ensures.view c.meet.ensures.known c.in_ok-append.ensures)

use Rattle.std.proofs.Common.{sym, ◌∙◌, drop, option_map}
use Rattle.cg_dyadic.proofs.Truth.{differ}
use Rattle.cg_cert.specs.Positions.{stage_at}
use Rattle.cg_cert.proofs.TextParts.{reads_settled, reads_unsettled}
use Rattle.cg_cert.proofs.checking.check_settled.Goals as goal

pub returns-then-branch-clause-reads : goal.returns-then-branch-clause-reads
returns-then-branch-clause-reads g c =
    reads_settled (stage_at c.args.work.now.arena c.args.stage.now) (drop c.args.at c.args.bytes.now)
    (option_map (λ end. drop end c.args.bytes.now) c.after.result) c.requires.numbers
    (sym c.in_ok-no_better.ensures.order ∙ c.if-branch.true) c.after.ensures.reads

pub returns-else-branch-clause-reads : goal.returns-else-branch-clause-reads
returns-else-branch-clause-reads g c =
    let m = stage_at c.args.work.now.arena c.args.stage.now in
    reads_unsettled m (drop c.args.at c.args.bytes.now)
    (λ l. differ _ l (sym c.in_ok-no_better.ensures.order ∙ c.if-branch.false))

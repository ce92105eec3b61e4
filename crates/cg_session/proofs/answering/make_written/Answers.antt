use Rattle.std.proofs.Common.{◌∙◌}
use Rattle.std.proofs.lemmas.Result.{IfOk-weaker}
use Rattle.cg_session.specs.Outputs.{output_of}
use Rattle.cg_session.proofs.Writings.{written_whole, written_summary}
use Rattle.cg_session.proofs.answering.make_written.Goals as goal

pub returns-then-sample-eq0 : goal.returns-then-sample-eq0
returns-then-sample-eq0 c = λ share positions replies.
    let out = output_of c.in_ok-output.output in
    (out, c.in_ok-output.ensures share positions replies, written_whole c.args.sample out c.if-sample-eq0.true)

pub returns : goal.returns
returns c =
    let out = output_of c.in_ok-output.output in
    IfOk-weaker c.make_summary.result _ _
    (λ w same share positions replies. (
      out,
      c.in_ok-output.ensures share positions replies,
      same ∙ written_summary c.args.sample out c.if-sample-eq0.false,
    ))
    c.make_summary.ensures

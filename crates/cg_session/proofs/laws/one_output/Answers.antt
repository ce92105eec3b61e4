use Rattle.std.proofs.Common.{◌∙◌, ap, sym, length, refl}
use Rattle.cg_session.specs.Settings.{share_of}
use Rattle.cg_session.specs.Output.{written_of}
use Rattle.cg_session.proofs.Outputs.{IsOutputOf-some, IsOutputOf-unique, same_output}
use Rattle.cg_session.proofs.laws.one_output.Goals as goal

pub returns-clause-some : goal.returns-clause-some
returns-clause-some c = λ s text.
    let (lines, is_session) = c.one_session.ensures.some text in
    let (output, is_output) = IsOutputOf-some (share_of s.cells (length lines)) s.positions
    (λ q. c.one_reply_to.ensures.some (share_of s.cells (length lines)) s.positions q) lines in
    (_, record { lines = lines; is_session = is_session; output = output; is_output = is_output; same = refl })

pub returns-clause-unique : goal.returns-clause-unique
returns-clause-unique c = λ s text p q is_p is_q.
    let lines = c.one_session.ensures.unique text is_p.lines is_q.lines is_p.is_session is_q.is_session in
    let share = share_of s.cells (length is_q.lines) in
    let same = IsOutputOf-unique share s.positions (λ x r t. c.one_reply_to.ensures.unique share s.positions x r t)
    is_q.lines is_p.output is_q.output (same_output s is_p.lines is_q.lines is_p.output lines is_p.is_output) is_q.is_output in
    is_p.same ∙ ap (written_of s.sample) same ∙ sym is_q.same

pub returns-clause-workers : goal.returns-clause-workers
returns-clause-workers c = λ s workers text p is_p.
    record { lines = is_p.lines; is_session = is_p.is_session; output = is_p.output; is_output = is_p.is_output; same = is_p.same }

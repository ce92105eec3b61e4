use Rattle.std.proofs.Common.{◌≡◌, ℕ, [], List, map, length, drop, drop_of_length-le, subst, arith}
use Rattle.std.proofs.lemmas.List.{length-map}
use Rattle.std.specs.Prelude.{Some, slice_get}
use Rattle.cg_eval.specs.Shown.{shown}
use Rattle.cg_session.specs.Outputs.{output_of}
use Rattle.cg_syntax.specs.Session.{Resolved}
use Rattle.cg_syntax.specs.SessionViews.{line_of}
use Rattle.cg_session.proofs.Knowing.{item_at, value_found}
use Rattle.cg_session.proofs.Outputs.{Completes, Completes-line, Completes-all, counted}
use Rattle.cg_session.proofs.output.make_output.Goals as goal

pub loop-i-preserved : goal.loop-i-preserved
loop-i-preserved c =
    let lines = c.args.lines.now in
    let i = c.loop-i.i in
    let line = line_of c.index-lines-i.result in
    let answer = c.index-answers-i.result in
    let old = output_of c.loop-i.out in
    let new = output_of c.push_reply.new.out in
    let at : slice_get (map line_of lines) i ≡ Some line = value_found line_of lines i c.index-lines-i.result c.loop-i-test.true c.index-lines-i.is in
    let has : slice_get c.args.answers.now i ≡ Some answer =
    item_at c.args.answers.now i answer (omega (arith, c.requires, c.loop-i-test.true)) c.index-answers-i.is in
    record {
      few = counted old new line.0 i (shown answer) c.in_ok-push_reply.ensures c.loop-i.invariant.few;
      completes = λ share positions replies.
          Completes-line share positions (map line_of lines) c.args.answers.now i line answer old new at has
          c.in_ok-push_reply.ensures replies (c.loop-i.invariant.completes share positions replies);
    }

pub returns : goal.returns
returns c = λ share positions replies.
    let all = map line_of c.args.lines.now in
    let done = output_of c.loop-i.out in
    let long : length all ≡ length c.args.lines.now = length-map c.args.lines.now line_of in
    let empty : drop c.loop-i.i all ≡ [] = drop_of_length-le all {i = c.loop-i.i} (omega (arith, long, c.loop-i-test.false)) in
    Completes-all share positions done all
    (subst (λ (left : List (ℕ × Resolved)). Completes share positions left done all) empty
    (c.loop-i.invariant.completes share positions replies))

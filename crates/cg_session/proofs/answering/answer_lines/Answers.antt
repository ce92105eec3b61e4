use Rattle.std.proofs.Common.{◌≡◌, ◌∙◌, ℕ, ◌<◌, ◌/◌, List, map, length, ap, ap₂, sym, subst, rules}
use Rattle.std.proofs.lemmas.List.{length-map}
use Rattle.std.specs.Prelude.{slice_get}
use Rattle.cg_cells.specs.Views.{Sizes}
use Rattle.cg_shared.specs.Passes.{pass_state}
use Rattle.cg_eval.specs.declared.answered.Answered.{Answered}
use Rattle.cg_session.specs.Good.{IsGood}
use Rattle.cg_session.specs.Output.{IsOutputOf}
use Rattle.cg_syntax.specs.SessionViews.{line_of}
use Rattle.cg_session.specs.Settings.{share_of}
use Rattle.cg_session.proofs.Shares.{share_is}
use denote.Param.Send.{param_sync, sendable}
use Rattle.cg_session.proofs.answering.answer_lines.Lts.{arg-7-2}
use Rattle.cg_session.proofs.Crossing.{job_sync}
use Rattle.cg_session.proofs.answering.answer_lines.Goals as goal

pub returns-then-is_empty-clause-written : goal.returns-then-is_empty-clause-written
returns-then-is_empty-clause-written g c =
    let lines = map line_of c.args.lines.now in
    let (out, is, same) = c.in_ok-output.ensures (share_of c.args.settings.cells (length lines)) c.args.settings.positions
    (λ n line answer at has. absurd cc) in
    (out, is, same)

pub returns-clause-written : goal.returns-clause-written
returns-clause-written g c =
    let lines = map line_of c.args.lines.now in
    let cells = c.args.settings.cells in
    let positions = c.args.settings.positions in
    let long : length lines ≡ length c.args.lines.now = length-map c.args.lines.now line_of in
    let some : 0 < length c.args.lines.now = search rules in
    let share : share_of cells (length lines) ≡ cells / length c.args.lines.now =
    ap (share_of cells) long ∙ share_is cells (length c.args.lines.now) some in
    let (out, is, same) = c.in_ok-output-2.ensures (cells / length c.args.lines.now) positions
    (λ n line answer at has.
    (c.in_ok-kept.ensures.good n answer (ap (λ (l : List Answered). slice_get l n) (sym c.deref-2.ensures.value) ∙ has) line at).reply) in
    (out, subst (λ (m : ℕ). IsOutputOf m positions lines out) (sym share) is, same)

pub returns-clause-kept : goal.returns-clause-kept
returns-clause-kept g c =
    let lines = map line_of c.args.lines.now in
    let cells = c.args.settings.cells in
    let positions = c.args.settings.positions in
    let kept = c.in_ok-kept.kept in
    let of = c.in_ok-kept.ensures in
    let long : length lines ≡ length c.args.lines.now = length-map c.args.lines.now line_of in
    let some : 0 < length c.args.lines.now = search rules in
    let share : share_of cells (length lines) ≡ cells / length c.args.lines.now =
    ap (share_of cells) long ∙ share_is cells (length c.args.lines.now) some in
    let weighed : length c.deref.result.now ≡ length c.args.lines.now = ap length c.deref.ensures.value ∙ c.in_ok-weights.ensures in
    let sizes : ℕ → ℕ → Sizes = λ n m. record { lines = n; share = m; passes = c.args.settings.workers } in
    record {
      some = subst (λ (n : ℕ). 0 < n) (sym long) some;
      table = of.table ∙ ap₂ sizes (weighed ∙ sym long) (sym share);
      own = of.pass.0;
      tickets = of.pass.1;
      long = of.long ∙ weighed ∙ sym long;
      good = λ n line answer at has.
          subst (λ (m : ℕ). IsGood m positions line.1 answer (pass_state kept.pass).known) (sym share)
          (of.good n answer has line at);
    }

pub evaluate_by_weight-requires-sync-J : goal.evaluate_by_weight-requires-sync-J
evaluate_by_weight-requires-sync-J g c κs within =
    param_sync 2 (arg-7-2 g.row.R g.row.G g.R.laws g.G.laws g.R.Threads-dict g.G.Gate-dict κs) (search (sendable, job_sync) depth 4)

use Rattle.std.proofs.Common.{◌≡◌, ◌+◌, ◌-◌, [], inl, inr, arith, ap, subst, List, ℕ}
use Rattle.std.proofs.lemmas.List.{append-nil}
use Rattle.std.proofs.lemmas.Bool.{cases_lt}
use Rattle.cg_nodes.specs.Boards.{AreWritten}
use Rattle.cg_values.specs.Contents.{places_at}
use Rattle.cg_values.proofs.WrittenLemmas.{more_written}
use Rattle.cg_values.proofs.contents.contents_in.Goals as goal

pub loop-start-preserved : goal.loop-start-preserved
loop-start-preserved c =
    let full = c.loop-start.invariant.full c.loop-start-test.true in
    let e = c.min-end.ensures in
    let n = c.in_ok-push.ensures.len in
    record {
      inside = omega arith;
      full = λ h. omega arith;
      few = omega arith;
      written = more_written c.args.planes c.loop-start.all.items c.push.new.self.items c.content_of.result
          c.loop-start.start c.min-end.result c.args.size c.loop-start.invariant.written c.in_ok-push.ensures.ok
          c.content_of.ensures (omega arith) (omega arith)
          (elim (cases_lt c.args.size (c.loop-start.start + 16)) [
            | inl h ↦ inr (omega arith, omega arith)
            | inr h ↦ inl (omega arith)
          ]);
    }

pub returns-clause-written : goal.returns-clause-written
returns-clause-written c =
    let P : List ℕ → Type 0 = λ z. AreWritten (places_at c.args.planes 0 c.args.size) z in
    let none : c.args.size - c.loop-start.start ≡ 0 = (let h = c.loop-start-test.false in omega arith) in
    subst P (append-nil c.loop-start.all.items) (c.loop-start.invariant.written [] (ap (places_at c.args.planes
    c.loop-start.start) none))

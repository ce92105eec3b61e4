use Rattle.std.proofs.Common.{◌≤◌, length, ◌⊎◌, inl, inr, refl, sym, subst, arith}
use Rattle.std.specs.Prelude.{Contains}
use Rattle.cg_io.specs.Faults.{one_more}
use Rattle.cg_io.specs.Memory.{FailsNext}
use Rattle.cg_io.proofs.Named.{Contains-from_test, not_Contains-from_test}
use Rattle.cg_io.proofs.memory_sink.MemorySinkSink.write.Goals as goal
use Rattle.cg_io.proofs.memory_sink.MemorySinkSink.write.Goals.{then-count-eq0-via-then-count-eq0, then-count-eq0-via-else-count-eq0+then-contains}

pub returns-then-count-eq0-clause-fails : goal.returns-then-count-eq0-clause-fails
returns-then-count-eq0-clause-fails c =
    let now = c.self.inside in
    let number = c.saturating_add-self-inside in
    let fails : Contains now.fails.items (one_more now.calls) ⊎ (now.room ≤ length now.bytes.items) =
    elim c.then-count-eq0.branch [
      | then-count-eq0-via-then-count-eq0 w ↦ inr (omega arith)
      | then-count-eq0-via-else-count-eq0+then-contains w ↦ inl (Contains-from_test now.fails.items
          w.deref.result.now (one_more now.calls) number.result w.contains.result w.deref.ensures.value
          number.ensures w.contains.ensures.value w.if-contains.true)
    ] in
    (λ _. subst FailsNext c.self.view_is fails, λ _. refl)

pub returns-clause-fails : goal.returns-clause-fails
returns-clause-fails c =
    let now = c.self.inside in
    let number = c.saturating_add-self-inside in
    let never : Contains now.fails.items (one_more now.calls) ⊎ (now.room ≤ length now.bytes.items) → ⊥ =
    λ fails. elim fails [
      | inl named ↦ not_Contains-from_test now.fails.items c.deref.result.now (one_more now.calls) number.result
          c.contains.result c.deref.ensures.value number.ensures c.contains.ensures.value c.if-contains.false named
      | inr full ↦ c.if-count-eq0.false (omega arith)
    ] in
    (λ wrong. absurd (let no : ⊥ = cc wrong in no), λ fails. absurd (never (subst FailsNext (sym c.self.view_is) fails)))

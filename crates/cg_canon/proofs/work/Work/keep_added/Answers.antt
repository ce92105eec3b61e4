use Rattle.std.proofs.Common.{◌≡◌, ℕ, sym, ◌∙◌, subst}
use Rattle.std.proofs.lemmas.List.Elements.{All-push, All-same}
use Rattle.cg_canon.specs.Added.{IsKnownSum}
use Rattle.cg_canon.specs.Cache.{SumHolds}
use Rattle.cg_canon.specs.Memos.{added_sum}
use Rattle.cg_canon.proofs.Holding.{cache_sums}
use Rattle.cg_canon.proofs.work.Work.keep_added.Goals as goal

pub invariant_of-self : goal.invariant_of-self
invariant_of-self g c =
    let h = c.self.inside.cache in
    let P = SumHolds (g.S.CellStore.state c.self.inside.store.now) in (
      c.self.invariant.0,
      cache_sums (g.S.CellStore.state c.self.inside.store.now) h c.keep_added.new.self c.self.invariant.1 c.in_err-keep_added.ensures.interner
          (All-same P c.keep_added.new.self.sums.items h.memo.sums.items c.in_err-keep_added.ensures.err c.self.invariant.1.sums),
    )

pub invariant_of-self-2 : goal.invariant_of-self-2
invariant_of-self-2 g c =
    let h = c.self.inside.cache in
    let first : c.number.result ≡ c.args.a = c.number.ensures.value ∙ c.id.ensures in
    let second : c.number-2.result ≡ c.args.b = c.number-2.ensures.value ∙ c.id-2.ensures in
    let Q : ℕ → ℕ → Type 0 = λ i j. IsKnownSum (g.S.CellStore.state c.self.inside.store.now) i j c.args.known in
    let H = SumHolds (g.S.CellStore.state c.self.inside.store.now) in
    let is = rw (← c.self.view_is) at c.requires in
    let own = subst (λ i. Q i c.number-2.result) (sym first) (subst (λ j. Q c.args.a j) (sym second) is) in (
      c.self.invariant.0,
      cache_sums (g.S.CellStore.state c.self.inside.store.now) h c.keep_added.new.self c.self.invariant.1 c.in_ok-keep_added.ensures.interner
          (All-same H c.keep_added.new.self.sums.items _ c.in_ok-keep_added.ensures.ok
          (All-push H h.memo.sums.items (added_sum c.number.result c.number-2.result c.args.known) c.self.invariant.1.sums own)),
    )

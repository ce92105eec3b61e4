use Rattle.std.proofs.Common.{◌≡◌, ◌-◌, ◌∙◌, ap, arith, Bool, false, inl, inr, length, refl, subst, sym, ℕ}
use Rattle.std.proofs.lemmas.Bool.{cases_lt}
use Rattle.std.proofs.lemmas.Bool.Decides.{eqb_tells}
use Rattle.std.proofs.lemmas.List.{get_or_read_under}
use Rattle.cg_hash_index.specs.Chains.{chain_at, nothing, number_in}
use Rattle.cg_hash_index.proofs.Chaining.{goes_on, starts}
use Rattle.cg_hash_index.proofs.hash_index.HashIndex.find.Goals as goal
use Rattle.cg_hash_index.proofs.hash_index.HashIndex.find.Goals.{else-found-number-via-then-found-number+else-is, else-found-number-via-else-found-number}

pub loop-up_to-init : goal.loop-up_to-init
loop-up_to-init g c =
    let heads = c.self.inside.chains.items in
    let last = starts c.self.inside.entries.items heads c.self.invariant c.args.number c.index-up_to.result.now c.chain_of.result
    c.index-up_to.ensures (omega arith) (c.chain_of.ensures.value ∙ ap (chain_at c.args.number) (omega arith)) in
    record {
      inside = last.inside;
      own = last.own;
      others = λ m l h e. absurd (last.behind m l h (ap (λ z. chain_at z (length heads)) e));
    }

pub loop-up_to-smaller : goal.loop-up_to-smaller
loop-up_to-smaller g c =
    let few = c.loop-up_to.invariant.inside in
    let last = goes_on c.self.inside.entries.items c.self.inside.chains.items c.self.invariant c.args.number (c.loop-up_to.up_to - 1)
    c.index-found.result.now (c.loop-up_to.invariant.own (c.loop-up_to.up_to - 1) (omega arith)) (omega arith) c.index-found.ensures in
    let low = last.inside in
    omega arith

pub loop-up_to-preserved : goal.loop-up_to-preserved
loop-up_to-preserved g c =
    let entries = c.self.inside.entries.items in
    let heads = c.self.inside.chains.items in
    let few = c.loop-up_to.invariant.inside in
    let last = goes_on entries heads c.self.invariant c.args.number (c.loop-up_to.up_to - 1) c.index-found.result.now
    (c.loop-up_to.invariant.own (c.loop-up_to.up_to - 1) (omega arith)) (omega arith) c.index-found.ensures in
    let low = last.inside in
    let read = get_or_read_under entries (c.loop-up_to.up_to - 1) (length entries) c.index-found.result.now nothing c.index-found.ensures (omega arith) refl in
    let other : (m : ℕ) → m ≡ c.loop-up_to.up_to - 1 → number_in entries m ≡ c.args.number → g.F.Fn.post c.args.is (m, tt) false =
    λ m at e. elim c.else-found-number.branch [
      | else-found-number-via-then-found-number+else-is w ↦
          let P : ℕ → Type 0 = λ z. g.F.Fn.post c.args.is (z, tt) false in
          let Q : Bool → Type 0 = λ z. g.F.Fn.post c.args.is (c.loop-up_to.up_to - 1, tt) z in
          subst P (sym at) (subst Q w.if-is.false w.is.ensures)
      | else-found-number-via-else-found-number w ↦
          absurd (w.if-found-number.false (ap (λ z. z.number) read ∙ ap (number_in entries) (sym at) ∙ e))
    ] in
    record {
      inside = omega arith;
      own = last.own;
      others = λ m l h e. elim (cases_lt m (c.loop-up_to.up_to - 1)) [
        | inl before ↦ absurd (last.behind m l before (ap (λ z. chain_at z (length heads)) e))
        | inr behind ↦ elim (eqb_tells m (c.loop-up_to.up_to - 1)) [
          | inl p ↦ other m p.1 e
          | inr q ↦ (let n = q.1 in c.loop-up_to.invariant.others m (omega arith) h e)
        ]
      ];
    }

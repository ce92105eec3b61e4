use lib.Dec.{eqb}
use Rattle.std.proofs.Common.{◌≡◌, ◌+◌, ap, arith, false, suc, sym, take, true, ◌∙◌}
use Rattle.std.specs.Prelude.{Some}
use Rattle.std.proofs.lemmas.Bool.Decides.{Decides-eqb}
use Rattle.cg_arena.specs.Verdict.{noted}
use Rattle.cg_arena.specs.declared.verdicts.Noted.{Noted}
use Rattle.cg_arena.proofs.Noting.{noted_hit, noted_miss}
use Rattle.cg_arena.proofs.verdicts.find.Goals as goal

true_not_false : ¬ (true ≡ false)
true_not_false e = cc

pub returns-then-eq : goal.returns-then-eq
returns-then-eq c =
    let same = (Decides-eqb c.entry-item.result.index c.args.index).0 (sym c.eq.ensures ∙ c.if-eq.true) in
    ap (λ e. Some e.answer) c.entry-item.is
    ∙ noted_hit c.args.entries.now c.loop-entry.entry-index c.entry-item.result c.args.index c.loop-entry-test.true c.loop-entry.invariant
    (ap (λ (e : Noted). e.index) (sym c.entry-item.is) ∙ same)

pub loop-entry-preserved : goal.loop-entry-preserved
loop-entry-preserved c =
    let one : c.loop-entry.entry-index + 1 ≡ suc c.loop-entry.entry-index = omega arith in
    let other : eqb c.entry-item.result.index c.args.index ≡ false = sym c.eq.ensures ∙ c.if-eq.false in
    ap (λ n. noted (take n c.args.entries.now) c.args.index) one
    ∙ noted_miss c.args.entries.now c.loop-entry.entry-index c.entry-item.result c.args.index c.loop-entry-test.true c.loop-entry.invariant
    (λ same. true_not_false (sym ((Decides-eqb c.entry-item.result.index c.args.index).1 (ap (λ (e : Noted). e.index) c.entry-item.is ∙ same)) ∙ other))

use Rattle.std.proofs.Common.{◌≡◌, refl, ap, sym, ◌∙◌, arith, ℕ, ◌≤◌, ◌-◌, ◌*◌, min, pos, ◌+ℤ◌}
use Rattle.std.proofs.lemmas.Int.{ints}
use Rattle.cg_walls.specs.declared.TheConstants.{BOUND, END}
use Rattle.cg_walls.specs.Places.{fall, next_of}
use Rattle.cg_walls.proofs.Gaps.{Closes, apart-ends, apart-later, apart-start, closes-all, gap-here}
use Rattle.cg_walls.proofs.Walking.{at-within, next-after, next-below}
use Rattle.cg_walls.proofs.meet.meeting.Goals as goal

pub loop-now-init : goal.loop-now-init
loop-now-init c = apart-start c.args.a.now c.args.b.now c.start-p.result c.start-q.result c.start-p.ensures c.start-q.ensures c.requires.start

pub closes-requires-clause-gap : goal.closes-requires-clause-gap
closes-requires-clause-gap c =
    let x = c.loop-now.invariant in
    let p = at-within c.args.a.now c.loop-now.now c.loop-now.p c.requires.a x.one in
    let q = at-within c.args.b.now c.loop-now.now c.loop-now.q c.requires.b x.two in
    let h = p.high in let k = q.high in
    let g = c.gap_at-gap.ensures in
    let b : pos END ≡ BOUND +ℤ BOUND = refl in
    omega (arith, ints)

along : (g k n m : ℕ) → n ≡ m → g ≤ n * k → g ≤ m * k
along g k n m e h = rw e at h

closed : (c : goal.After-closes) → Closes c.args.a.now c.args.b.now c.closes.result
closed c =
    let x = c.loop-now.invariant in
    let a = c.args.a.now in let b = c.args.b.now in
    let f : c.falls-falls.result ≡ fall c.loop-now.p.up c.loop-now.q.up = c.falls-falls.ensures in
    let t : c.min-to.result ≡ min (next_of a c.loop-now.p) (next_of b c.loop-now.q) = c.min-to.ensures
    ∙ ap (λ z. min z c.next-in-loop-now.result) c.next.ensures ∙ ap (λ z. min (next_of a c.loop-now.p) z) c.next-in-loop-now.ensures in
    let i = next-after a c.loop-now.now c.loop-now.p c.loop-now-test.true x.one in
    let j = next-after b c.loop-now.now c.loop-now.q c.loop-now-test.true x.two in
    closes-all a b c.loop-now.now c.min-to.result c.gap_at-gap.result c.loop-now.p c.loop-now.q c.closes.result x t (omega arith)
    (c.gap_at-gap.ensures ∙ sym (gap-here a b c.loop-now.now c.loop-now.p c.loop-now.q x.one x.two))
    (along c.gap_at-gap.result (c.min-to.result - c.loop-now.now) c.falls-falls.result (fall c.loop-now.p.up c.loop-now.q.up) f c.if-gap-falls.true)
    (λ e. let h = along c.gap_at-gap.result (c.min-to.result - c.loop-now.now) c.falls-falls.result 0 (f ∙ e) c.if-gap-falls.true in omega arith)
    (rw f at c.closes.ensures.closed) c.closes.ensures.still (rw f at c.closes.ensures.none)

pub returns-then-gap-falls-clause-met : goal.returns-then-gap-falls-clause-met
returns-then-gap-falls-clause-met c = (closed c).met

pub returns-then-gap-falls-clause-first : goal.returns-then-gap-falls-clause-first
returns-then-gap-falls-clause-first c = (closed c).first

pub returns-then-gap-falls-clause-none : goal.returns-then-gap-falls-clause-none
returns-then-gap-falls-clause-none c = (closed c).none

pub loop-now-preserved : goal.loop-now-preserved
loop-now-preserved c =
    let x = c.loop-now.invariant in
    let a = c.args.a.now in let b = c.args.b.now in
    let f : c.falls-falls.result ≡ fall c.loop-now.p.up c.loop-now.q.up = c.falls-falls.ensures in
    let t : c.min-to.result ≡ min (next_of a c.loop-now.p) (next_of b c.loop-now.q) = c.min-to.ensures
    ∙ ap (λ z. min z c.next-in-loop-now.result) c.next.ensures ∙ ap (λ z. min (next_of a c.loop-now.p) z) c.next-in-loop-now.ensures in
    let i = next-after a c.loop-now.now c.loop-now.p c.loop-now-test.true x.one in
    let j = next-after b c.loop-now.now c.loop-now.q c.loop-now-test.true x.two in
    let k = next-below a c.loop-now.now c.loop-now.p x.one in
    apart-later a b c.loop-now.now c.min-to.result c.gap_at-gap.result c.loop-now.p c.loop-now.q c.moved-p.result c.moved-q.result x t (omega arith)
    (omega arith)
    (c.gap_at-gap.ensures ∙ sym (gap-here a b c.loop-now.now c.loop-now.p c.loop-now.q x.one x.two))
    (λ h. let e = along c.gap_at-gap.result (c.min-to.result - c.loop-now.now) (fall c.loop-now.p.up c.loop-now.q.up) c.falls-falls.result (sym f) h in
    let n = c.if-gap-falls.false in omega arith)
    c.moved-p.ensures c.moved-q.ensures

pub unreachable-requires : goal.unreachable-requires
unreachable-requires c = apart-ends c.args.a.now c.args.b.now c.loop-now.now c.loop-now.p c.loop-now.q c.requires.a c.requires.b c.loop-now.invariant
    (λ h. let n = c.loop-now-test.false in omega arith)

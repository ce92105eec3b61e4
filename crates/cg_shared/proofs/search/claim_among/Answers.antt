use Rattle.std.proofs.Common.{◌≡◌, ℕ, suc, ◌+◌, ◌-◌, ◌≤◌, ap, ◌∙◌, subst, arith}
use Rattle.cg_cells.specs.Views.{cells_of}
use Rattle.cg_cells.specs.Steps.{GoesOn}
use Rattle.cg_shared.proofs.Turning.{goes_further}
use Rattle.cg_shared.proofs.search.claim_among.Goals as goal

next : (steps cell first : ℕ) → first ≤ cell → steps + (cell - first) + 1 ≡ steps + (cell + 1 - first)
next steps cell first le = omega arith

pub loop-cell-preserved : goal.loop-cell-preserved
loop-cell-preserved g c =
    let I = c.loop-cell.invariant in
    let r = goes_further c.args.seat.now.me.0 c.loop-cell.seat.me.0 c.ends.new.seat.me.0 c.args.key
    (c.args.steps + (c.loop-cell.cell - c.args.first)) I.4 I.5 (c.ends.ensures.miss c.if-ends.false) in
    let here = next c.args.steps c.loop-cell.cell c.args.first I.2 in
    let size = ap (λ x. cells_of x.sizes) I.5 ∙ ap cells_of c.requires.sized in (
      c.ends.ensures.same.0 ∙ I.0,
      c.ends.ensures.same.1 ∙ I.1,
      (let a = I.2 in omega arith),
      (let a = c.loop-cell-test.true in omega arith),
      subst (GoesOn c.ends.new.seat.me.0.probe c.args.key) here r.0,
      r.1,
      (suc I.6.0, (c.loop-cell.seat.me.0.made, I.6.1, c.ends.ensures.made)),
      (let a = r.2 in omega arith),
    )

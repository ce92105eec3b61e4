use Rattle.std.proofs.Common.{refl, false}
use Rattle.cg_form.proofs.CutSteps.{smallest_high, smallest_low}
use Rattle.cg_form.proofs.cuts.smallest.Goals as goal

pub returns-then-left : goal.returns-then-left
returns-then-left c = smallest_low c.args.left (record { at = c.least.result; closed = false }) c.if-left.true c.least.ensures.value refl

pub returns : goal.returns
returns c = smallest_high c.args.left (record { at = c.greatest.result; closed = false }) c.if-left.false c.greatest.ensures.value refl

use Rattle.std.proofs.Common.{ap, sym, ◌∙◌, Some}
use Rattle.cg_names.proofs.Looks.{arrows_side, arrows_told, no_arrows_told, turned_other, turned_same}
use Rattle.cg_names.proofs.look_arrows.arrows_of.Goals as goal

pub returns-in-Star-clause-arrows : goal.returns-in-Star-clause-arrows
returns-in-Star-clause-arrows c k i e = c.level_at.ensures.arrows c.args.down k i (sym (ap (λ z. Some z) c.in-Star.is) ∙ e)

pub returns-then-turned-down-clause-arrows : goal.returns-then-turned-down-clause-arrows
returns-then-turned-down-clause-arrows c k i e =
    let a = c.in-Arrows in
    arrows_told c.args.down k _ i e a.turned a.starred a.base a.count (ap (λ z. Some z) a.is)
    (turned_same a.turned c.args.down c.if-turned-down.true)

pub returns-else-turned-down-clause-arrows : goal.returns-else-turned-down-clause-arrows
returns-else-turned-down-clause-arrows c k i e =
    let a = c.in-Arrows in
    let is = ap (λ z. Some z) a.is in
    no_arrows_told c.args.down k _ i e (λ x f. cc)
    (λ starred x n f. turned_other a.turned c.args.down c.if-turned-down.false
    (arrows_side a.turned c.args.down a.starred starred a.base x a.count n (sym is ∙ f)))

pub returns-in-Switch-clause-arrows : goal.returns-in-Switch-clause-arrows
returns-in-Switch-clause-arrows c k i e =
    let is = c.in-Switch.is in no_arrows_told c.args.down k _ i e (λ x f. cc) (λ starred x n f. cc)

pub returns-in-Tiny-clause-arrows : goal.returns-in-Tiny-clause-arrows
returns-in-Tiny-clause-arrows c k i e =
    let is = c.in-Tiny.is in no_arrows_told c.args.down k _ i e (λ x f. cc) (λ starred x n f. cc)

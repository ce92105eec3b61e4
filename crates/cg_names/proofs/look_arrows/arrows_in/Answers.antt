use Rattle.std.proofs.Common.{sym, ◌∙◌}
use Rattle.cg_names.proofs.Looks.{no_arrows_told}
use Rattle.cg_names.proofs.look_arrows.arrows_in.Goals as goal

pub returns-in-None-clause-arrows : goal.returns-in-None-clause-arrows
returns-in-None-clause-arrows c k i e =
    let is = c.in-None.is in no_arrows_told c.args.down k _ i e (λ x f. cc) (λ starred x n f. cc)

pub returns-in-Some-clause-arrows : goal.returns-in-Some-clause-arrows
returns-in-Some-clause-arrows c k i e = c.arrows_of.ensures.arrows k i (sym c.in-Some.is ∙ e)

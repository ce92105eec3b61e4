use Rattle.std.proofs.Common.{ℕ, suc, arith, ap, sym, ◌∙◌}
use Rattle.cg_names.specs.Named.{nimber_form, nimbers_below}
use Rattle.cg_nimbers.proofs.NimberPositions.{length-nimbers_below, nimber-positions}
use Rattle.cg_names.proofs.Steps.{given_from, given_positions}
use Rattle.cg_names.proofs.nimbers.nimber.Goals as goal

pub returns-in-None : goal.returns-in-None
returns-in-None g c =
    let n = length-nimbers_below (suc c.args.count) in
    given_positions _ (nimber_form c.args.count) (nimbers_below (suc c.args.count)) (nimber-positions c.args.count)
    (omega (arith, c.in-None.ensures, c.limit-limit.ensures))

pub returns-in-Some : goal.returns-in-Some
returns-in-Some g c =
    let h = c.in-Some.ensures in
    let n = length-nimbers_below (suc c.in-Some.count) in
    given_from _ _ _ (nimber_form c.in-Some.count) (nimber_form c.args.count) (nimbers_below (suc c.in-Some.count))
    (ap nimber_form h.0) (nimber-positions c.args.count ∙ ap (λ (k : ℕ). nimbers_below (suc k)) (sym h.0))
    (omega (arith, h.0, h.1, n, c.limit-limit.ensures)) c.make_nimbers.ensures

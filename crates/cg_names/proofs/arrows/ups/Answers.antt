use Rattle.std.proofs.Common.{arith, ap, sym, ◌∙◌, false}
use Rattle.cg_canon.specs.Works.{work_state}
use Rattle.cg_names.specs.Named.{ups_chain, ups_form}
use Rattle.cg_names.proofs.Steps.{given_from, given_positions}
use Rattle.cg_names.proofs.UpPositions.{length-ups_chain, ups_form-positions}
use Rattle.cg_names.proofs.UpSteps.{none_up}
use Rattle.cg_names.proofs.arrows.ups.Goals as goal

pub returns-then-count-eq0 : goal.returns-then-count-eq0
returns-then-count-eq0 g c =
    let W = work_state g.S.CellStore.state in
    rw (← (none_up c.args.down c.args.count c.if-count-eq0.true)) c.nimber.ensures

pub returns-in-None : goal.returns-in-None
returns-in-None g c =
    let n = length-ups_chain c.args.down false c.args.count in
    given_positions _ (ups_form c.args.down c.args.count) (ups_chain c.args.down false c.args.count)
    (ups_form-positions c.args.down c.args.count (omega arith))
    (omega (arith, c.in-None.ensures, c.limit-limit.ensures))

pub returns-in-Some : goal.returns-in-Some
returns-in-Some g c =
    let h = c.in-Some.ensures in
    let n = length-ups_chain c.args.down false c.in-Some.count in
    given_from _ _ _ (ups_form c.args.down c.in-Some.count) (ups_form c.args.down c.args.count)
    (ups_chain c.args.down false c.in-Some.count) (ap (ups_form c.args.down) h.0)
    (ups_form-positions c.args.down c.args.count (omega arith) ∙ ap (ups_chain c.args.down false) (sym h.0))
    (omega (arith, h.0, h.1, n, c.limit-limit.ensures)) c.make_ups.ensures

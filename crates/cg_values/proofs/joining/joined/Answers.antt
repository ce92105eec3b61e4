use Rattle.std.proofs.Common.{ap}
use Rattle.std.proofs.lemmas.List.{nil_from_length}
use Rattle.cg_canon.specs.Works.{work_state}
use Rattle.cg_values.specs.Parts.{handles_at}
use Rattle.cg_values.proofs.GiveSteps.{up_none, up_some}
use Rattle.cg_values.proofs.HandleSteps.{handles-first}
use Rattle.cg_values.proofs.joining.joined.Goals as goal

pub returns-in-None : goal.returns-in-None
returns-in-None g c = λ gs all.
    up_none (work_state g.S.CellStore.state c.args.work.now) (work_state g.S.CellStore.state c.canonical.new.work)
    (handles_at c.args.handles.now c.args.places.now) gs c.canonical.result
    (ap (handles_at c.args.handles.now) (nil_from_length c.args.places.now c.in-None.ensures.cases)) all
    c.canonical.ensures.gives

pub returns-in-Some : goal.returns-in-Some
returns-in-Some g c = λ gs all.
    let hs = c.args.handles.now in
    up_some (work_state g.S.CellStore.state c.args.work.now) (work_state g.S.CellStore.state c.add_all.new.work)
    (handles_at hs c.args.places.now) c.index-handles-first.result (handles_at hs c.in-Some.others.now) gs c.add_all.result
    (handles-first hs c.args.places.now c.in-Some.first.now c.index-handles-first.result c.in-Some.others.now c.in-Some.ensures.cases.0
    c.requires.within c.index-handles-first.is) all c.add_all.ensures

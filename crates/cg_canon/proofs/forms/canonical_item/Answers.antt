use Rattle.std.proofs.Common.{subst}
use Rattle.cg_form.specs.Game.{Game}
use Rattle.cg_nodes.specs.CanLaw.{can-fixed}
use Rattle.cg_canon.specs.Made.{FormGiven}
use Rattle.cg_canon.specs.Works.{work_state}
use Rattle.cg_canon.proofs.forms.canonical_item.Goals as goal

pub returns : goal.returns
returns g c =
    let W = work_state g.S.CellStore.state in
    let P : Game → Type 0 = λ z. FormGiven (W c.args.work.now) (W c.found_item.new.work) z c.args.extra c.found_item.result in
    subst P (can-fixed _ c.requires.canonical) c.found_item.ensures

use Rattle.std.proofs.Common.{sym, subst}
use Rattle.cg_canon.specs.Works.{work_state}
use Rattle.cg_form.specs.Canonical.{Canonical}
use Rattle.cg_form.specs.Game.{Game}
use Rattle.cg_names.proofs.UpForms.{star_canonical}
use Rattle.cg_names.proofs.UpSteps.{star_made}
use Rattle.cg_names.proofs.arrows.make_star.Goals as goal

pub make-requires-clause-canonical : goal.make-requires-clause-canonical
make-requires-clause-canonical g c =
    let P : Game → Type 0 = λ z. Canonical z in
    subst P (sym (star_made (work_state g.S.CellStore.state c.args.work.now) c.args.zero c.requires)) star_canonical

pub returns : goal.returns
returns g c = c.make.ensures _ (star_made (work_state g.S.CellStore.state c.args.work.now) c.args.zero c.requires)

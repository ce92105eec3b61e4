use Rattle.std.proofs.Common.{sym, subst, ◌∙◌, [], ◌∷◌}
use Rattle.cg_form.specs.Canonical.{Canonical}
use Rattle.cg_form.specs.Game.{Game}
use Rattle.cg_canon.specs.Made.{Gives}
use Rattle.cg_names.specs.Lists.{plain_item}
use Rattle.cg_canon.specs.Works.{work_state}
use Rattle.cg_names.proofs.Steps.{mirrored_is, plain_is}
use Rattle.cg_names.proofs.making.make.Goals as goal

pub canonical_item-requires-clause-canonical : goal.canonical_item-requires-clause-canonical
canonical_item-requires-clause-canonical g c =
    let P : Game → Type 0 = λ z. Canonical z in
    subst P (sym (mirrored_is c.args.mirrored _ _ c.if-mirrored.true)) c.requires.canonical

pub canonical_item-requires-else-mirrored-clause-canonical : goal.canonical_item-requires-else-mirrored-clause-canonical
canonical_item-requires-else-mirrored-clause-canonical g c =
    let P : Game → Type 0 = λ z. Canonical z in
    subst P (sym (plain_is c.args.mirrored _ _ c.if-mirrored.false)) c.requires.canonical

pub returns-then-mirrored : goal.returns-then-mirrored
returns-then-mirrored g c k e =
    let W = work_state g.S.CellStore.state in
    let P : Game → Type 0 = λ z. Gives (W c.args.work.now) (W c.canonical_item.new.work) (plain_item z ∷ []) z
    c.canonical_item.result in
    subst P (mirrored_is c.args.mirrored _ _ c.if-mirrored.true ∙ e) c.canonical_item.ensures.gives

pub returns-else-mirrored : goal.returns-else-mirrored
returns-else-mirrored g c k e =
    let W = work_state g.S.CellStore.state in
    let P : Game → Type 0 = λ z. Gives (W c.args.work.now) (W c.canonical_item-else-mirrored.new.work) (plain_item z ∷ []) z
    c.canonical_item-else-mirrored.result in
    subst P (plain_is c.args.mirrored _ _ c.if-mirrored.false ∙ e) c.canonical_item-else-mirrored.ensures.gives

use Rattle.std.proofs.Common.{refl, ◌+◌, [], ◌∷◌, sym, ◌∙◌}
use Rattle.cg_cells.specs.Views.{a_look, makes}
use Rattle.cg_cells.proofs.Notes.{some_is}
use Rattle.cg_shared.proofs.Telling.{still_look, look_named, look_spends}
use Rattle.cg_shared.proofs.Allowed.{look_allowed}
use Rattle.cg_shared.proofs.steps.look.Goals as goal

pub load-requires : goal.load-requires
load-requires g c = (c.requires.table.0, c.requires.table.1, look_allowed g.F.Facts.meaning g.met.F.Facts.lawful c.args.shared.now.key _ _ _ c.requires.live c.args.cell c.requires.known)

pub returns-clause-view : goal.returns-clause-view
returns-clause-view g c = λ t e. (c.load.ensures.2.1 c.args.cell t refl e).0

pub returns-clause-sure : goal.returns-clause-sure
returns-clause-sure g c = let k = some_is _ c.requires.known in (c.load.ensures.2.1 c.args.cell k.0 (λ i. 1 + c.args.cell) k.1).1

pub returns-clause-key : goal.returns-clause-key
returns-clause-key g c = let k = some_is _ c.requires.known in (c.load.ensures.2.1 c.args.cell k.0 (λ i. 1 + c.args.cell) k.1).2

pub returns-clause-spells : goal.returns-clause-spells
returns-clause-spells g c = let k = some_is _ c.requires.known in (c.load.ensures.2.1 c.args.cell k.0 (λ i. 1 + c.args.cell) k.1).3 ∙ sym k.1

pub returns-clause-still : goal.returns-clause-still
returns-clause-still g c = let k = some_is _ c.requires.known in still_look g.F.Facts.meaning (a_look c.args.cell ∷ []) _ _ c.load.result k.0 (c.load.ensures.2.1 c.args.cell k.0 (λ i. 1 + c.args.cell) k.1).0

pub returns-clause-named : goal.returns-clause-named
returns-clause-named g c =
    let k = some_is _ c.requires.known in
    let r = c.load.ensures.2.1 c.args.cell k.0 (λ i. 1 + c.args.cell) k.1 in
    look_named g.F.Facts.meaning _ _ c.load.ensures.0 (makes (a_look c.args.cell ∷ []) c.args.seat.now.me.0) c.load.new.seat.me.0 r.1 c.args.cell c.load.result k.0 k.1 r.0

pub returns-clause-spends : goal.returns-clause-spends
returns-clause-spends g c =
    let k = some_is _ c.requires.known in
    let r = c.load.ensures.2.1 c.args.cell k.0 (λ i. 1 + c.args.cell) k.1 in
    look_spends g.F.Facts.meaning _ _ c.load.ensures.0 (makes (a_look c.args.cell ∷ []) c.args.seat.now.me.0) c.load.new.seat.me.0 r.1 c.args.cell c.load.result k.0 k.1 r.0

use Rattle.cg_canon.specs.Works.{work_state}
use Rattle.cg_canon.proofs.FormTables.{form_made}
use Rattle.cg_canon.proofs.forms.found_item.Goals as goal

pub keep_made-kept-requires : goal.keep_made-kept-requires
keep_made-kept-requires g c =
    form_made (work_state g.S.CellStore.state c.args.work.now) (g.S.CellStore.state c.make_value.new.self.store.now)
    c.in_ok-form.ensures.gives.made.keeps.known c.args.lefts.now c.args.rights.now c.in_ok-form.form c.requires.lefts c.requires.rights
    c.in_ok-form.ensures.gives.game

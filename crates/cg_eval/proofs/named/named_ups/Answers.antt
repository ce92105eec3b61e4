use Rattle.std.proofs.Common.{false, sym}
use Rattle.cg_canon.specs.Works.{work_state}
use Rattle.cg_names.specs.Lists.{form_items}
use Rattle.cg_names.specs.Named.{ups_form}
use Rattle.cg_nodes.specs.CanLaw.{can-fixed}
use Rattle.cg_eval.proofs.Expressions.{ups_gives}
use Rattle.cg_names.proofs.UpForms.{ups-canonical}
use Rattle.cg_eval.proofs.Steps.{gives_from}
use Rattle.cg_eval.proofs.named.named_ups.Goals as goal

pub returns : goal.returns
returns g c =
    let s = work_state g.S.CellStore.state c.args.work.now in
    let t = work_state g.S.CellStore.state c.ups.new.work in
    let form = ups_form c.args.down c.args.count in
    ups_gives s t c.args.down c.args.count c.ups.result c.widen.result c.widen.ensures
    (gives_from s t (form_items s.rest.limit form) form form c.ups.result (sym (can-fixed form
    (ups-canonical c.args.down false c.args.count)))
    c.ups.ensures)

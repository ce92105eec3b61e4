use Rattle.std.proofs.Common.{sym}
use Rattle.cg_canon.specs.Works.{work_state}
use Rattle.cg_names.specs.Lists.{form_items}
use Rattle.cg_names.specs.Named.{nimber_form}
use Rattle.cg_nodes.specs.CanLaw.{can-fixed}
use Rattle.cg_eval.proofs.Expressions.{nimber_gives}
use Rattle.cg_nimbers.proofs.CanonicalNimbers.{nimber-canonical}
use Rattle.cg_eval.proofs.Steps.{gives_from}
use Rattle.cg_eval.proofs.named.named_nimber.Goals as goal

pub returns : goal.returns
returns g c =
    let s = work_state g.S.CellStore.state c.args.work.now in
    let t = work_state g.S.CellStore.state c.nimber.new.work in
    let form = nimber_form c.args.count in
    nimber_gives s t c.args.count c.nimber.result c.widen.result c.widen.ensures
    (gives_from s t (form_items s.rest.limit form) form form c.nimber.result (sym (can-fixed form
    (nimber-canonical c.args.count)))
    c.nimber.ensures)

use Rattle.std.proofs.Common.{arith, sym}
use Rattle.std.specs.Prelude.{None, Ok}
use Rattle.std.proofs.lemmas.Result.{err_from_is_err_and}
use Rattle.cg_canon.specs.Works.{work_state}
use Rattle.cg_canon.specs.declared.fault.ValueFault.TheVariants.{Memory}
use Rattle.cg_names.specs.Lists.{form_items}
use Rattle.cg_names.specs.Named.{nimber_form}
use Rattle.cg_nimbers.proofs.CanonicalNimbers.{nimber-canonical}
use Rattle.cg_nodes.specs.CanLaw.{can-fixed}
use Rattle.cg_eval.specs.Octals.{heap_form, heap_items}
use Rattle.cg_eval.specs.Progress.{Finds}
use Rattle.cg_eval.specs.declared.fault.NoValue.TheVariants.{Refused}
use Rattle.cg_eval.proofs.HeapValues.{heap-memory, heap-positions, nimber-finds}
use Rattle.cg_eval.proofs.Steps.{gives_from, passed_on}
use Rattle.cg_eval.proofs.heaps.value_of_heap.Goals as goal

pub returns-then-limit-count : goal.returns-then-limit-count
returns-then-limit-count g c =
    heap-positions (work_state g.S.CellStore.state c.args.work.now) c.args.octal.now
    (omega (arith, c.if-limit-count.true, c.limit-limit.ensures, c.heap-count.ensures.value))

pub returns-in_err-number : goal.returns-in_err-number
returns-in_err-number g c =
    let s = work_state g.S.CellStore.state c.args.work.now in
    let o = c.args.octal.now in
    let p = err_from_is_err_and c.from_residual.result c.from_residual.ensures.1 in
    passed_on (Finds s s None (heap_items s.rest.limit (Ok o)) (heap_form (Ok o))) c.from_residual.result p.0 (Refused Memory)
    p.1 p.2 (heap-memory s o)

pub returns : goal.returns
returns g c =
    let s = work_state g.S.CellStore.state c.args.work.now in
    let t = work_state g.S.CellStore.state c.nimber.new.work in
    let k = c.in_ok-number.number in
    let form = nimber_form k in
    nimber-finds s t c.args.octal.now k c.nimber.result c.widen.result c.widen.ensures
    (omega (arith, c.if-limit-count.false, c.limit-limit.ensures, c.heap-count.ensures.value))
    c.in_ok-number.ensures.within c.in_ok-number.ensures.value
    (gives_from s t (form_items s.rest.limit form) form form c.nimber.result (sym (can-fixed form (nimber-canonical k)))
    c.nimber.ensures)

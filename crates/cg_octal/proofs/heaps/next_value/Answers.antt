use Rattle.std.proofs.Common.{length, ◌≤◌}
use Rattle.std.proofs.lemmas.Result.{IfOk-weaker}
use Rattle.cg_form.specs.Order.{Equal}
use Rattle.cg_nimbers.specs.Nimbers.{nimber_form}
use Rattle.cg_octal.specs.Heaps.{heap, heap_options}
use Rattle.cg_octal.specs.Mex.{IsLeastMissing}
use Rattle.cg_octal.proofs.HeapValues.{next_value-equal, next_value-within}
use Rattle.cg_octal.proofs.heaps.next_value.Goals as goal

pub returns-clause-value : goal.returns-clause-value
returns-clause-value c =
    let digits = c.args.digits.now in
    let n = length c.args.values.now in
    IfOk-weaker c.least_missing.result (IsLeastMissing c.deref.result.now)
    (λ k. Equal (heap digits n) (nimber_form k))
    (next_value-equal n n digits c.new.result.items c.in_ok-found.found.items c.deref.result.now c.new.ensures.items
    c.deref.ensures.value c.in_ok-found.ensures) c.least_missing.ensures

pub returns-clause-within : goal.returns-clause-within
returns-clause-within c =
    let digits = c.args.digits.now in
    let n = length c.args.values.now in
    IfOk-weaker c.least_missing.result (IsLeastMissing c.deref.result.now) (λ k. k ≤ n)
    (next_value-within n (heap_options (heap digits) digits n) c.new.result.items c.in_ok-found.found.items
    c.deref.result.now c.new.ensures.items c.deref.ensures.value c.in_ok-found.ensures) c.least_missing.ensures

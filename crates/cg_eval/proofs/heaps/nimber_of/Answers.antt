use Rattle.cg_eval.proofs.HeapValues.{value-read, value-small}
use Rattle.cg_eval.proofs.heaps.nimber_of.Goals as goal

pub returns-clause-value : goal.returns-clause-value
returns-clause-value c =
    value-read c.args.octal.now.digits c.in_ok-all.all c.as_slice.result.now c.args.octal.now.heap c.heap-place.result
    c.as_slice.ensures c.heap-place.ensures.value c.in_ok-all.ensures.values c.in_ok-all.ensures.count

pub returns-clause-within : goal.returns-clause-within
returns-clause-within c =
    value-small c.args.octal.now.digits c.in_ok-all.all c.as_slice.result.now c.args.octal.now.heap c.heap-place.result
    c.as_slice.ensures c.heap-place.ensures.value c.in_ok-all.ensures.values c.in_ok-all.ensures.count

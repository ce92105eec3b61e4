use Rattle.std.proofs.Common.{◌≡◌, List, ℕ, subst}
use Rattle.cg_octal.specs.Codes.{IsRead}
use Rattle.cg_eval.specs.Octals.{heap_fault, octal_read}
use Rattle.cg_eval.specs.Parts.{IsHeapFault}
use Rattle.cg_eval.proofs.OctalReadings.{heap-fault_of}
use Rattle.cg_eval.proofs.Replies.{if_ok_map}
use Rattle.cg_eval.proofs.heaps.heap_fault.Goals as goal

pub returns : goal.returns
returns c =
    let found = c.read-found.result in
    let P : List ℕ → Type 0 = λ z. IsRead z c.args.tokens found in
    if_ok_map (λ o. IsHeapFault o found) (λ o. o ≡ heap_fault (octal_read c.args.code.now c.args.tokens)) c.fault_of.result
    (λ o h. heap-fault_of c.args.code.now c.args.tokens found o (subst P c.as_slice.ensures c.read-found.ensures.read) h)
    c.fault_of.ensures

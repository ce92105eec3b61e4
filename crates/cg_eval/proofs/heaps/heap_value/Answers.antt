use Rattle.std.proofs.Common.{Err, List, Ok, Result, ℕ, ap, sym, subst}
use Rattle.cg_canon.proofs.Keeping.{keeps_all}
use Rattle.cg_canon.specs.Works.{work_state}
use Rattle.cg_octal.specs.Codes.{IsRead, OctalHeap}
use Rattle.cg_octal.specs.declared.fault.OctalFault.{OctalFault}
use Rattle.cg_octal.specs.declared.fault.OctalFault.TheVariants.{Code, Heap}
use Rattle.cg_eval.specs.Octals.{heap_fault, heap_form, heap_items}
use Rattle.cg_eval.specs.Progress.{Finds}
use Rattle.cg_eval.proofs.OctalReadings.{heap-read, heap-refused}
use Rattle.cg_eval.proofs.heaps.heap_value.Goals as goal

pub returns-in-Ok : goal.returns-in-Ok
returns-in-Ok g c =
    let s = work_state g.S.CellStore.state c.args.work.now in
    let t = work_state g.S.CellStore.state c.value_of_heap.new.work in
    let R : List ℕ → Type 0 = λ z. IsRead z c.args.tokens (Ok c.in-Ok.octal) in
    let P : Result OctalHeap OctalFault → Type 0 = λ o.
    Finds s t (heap_fault o) (heap_items s.rest.limit o) (heap_form o) c.value_of_heap.result in
    subst P (sym (heap-read c.args.code.now c.args.tokens c.in-Ok.octal
    (subst R c.as_slice.ensures c.in-Ok.ensures.read))) c.value_of_heap.ensures

pub returns-in-Err-Code : goal.returns-in-Err-Code
returns-in-Err-Code g c =
    let fault : OctalFault = Code c.in-Err-Code.place in
    let R : List ℕ → Type 0 = λ z. IsRead z c.args.tokens (Err fault) in
    let is : IsRead c.as_slice.result.now c.args.tokens (Err fault) =
    rw c.in-Err-Code.field-0-is at c.in-Err-Code.ensures.read in
    rw c.in-Err-Code.field-0-is (
      ap heap_fault (heap-refused c.args.code.now c.args.tokens fault (subst R c.as_slice.ensures is) (λ e. cc)),
      keeps_all (work_state g.S.CellStore.state c.args.work.now),
    )

pub returns-in-Err-Heap : goal.returns-in-Err-Heap
returns-in-Err-Heap g c =
    let R : List ℕ → Type 0 = λ z. IsRead z c.args.tokens (Err Heap) in
    let is : IsRead c.as_slice.result.now c.args.tokens (Err Heap) =
    rw c.in-Err-Heap.field-0-is at c.in-Err-Heap.ensures.read in (
      ap heap_fault (heap-refused c.args.code.now c.args.tokens Heap (subst R c.as_slice.ensures is) (λ e. cc)),
      keeps_all (work_state g.S.CellStore.state c.args.work.now),
    )

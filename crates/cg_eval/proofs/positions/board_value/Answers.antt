use Rattle.std.proofs.Common.{ap, sym, subst}
use Rattle.cg_canon.proofs.Keeping.{keeps_all}
use Rattle.cg_canon.specs.Works.{work_state}
use Rattle.cg_eval.specs.Boards.{Position, position_fault, position_form, position_items, position_of}
use Rattle.cg_eval.specs.Parts.{set_up}
use Rattle.cg_eval.specs.Progress.{Finds}
use Rattle.cg_eval.proofs.BoardEnds.{sound-at}
use Rattle.cg_eval.proofs.BoardReads.{board-none, is-faulty}
use Rattle.cg_eval.proofs.Steps.{finds}
use Rattle.cg_eval.proofs.positions.board_value.Goals as goal

pub value_in-requires : goal.value_in-requires
value_in-requires g c =
    sound-at c.args.kind c.args.rules.now c.args.board.now (set_up c.in-Ok.board) c.in-Ok.ensures.read

pub returns-in-Ok : goal.returns-in-Ok
returns-in-Ok g c =
    let s = work_state g.S.CellStore.state c.args.work.now in
    let t = work_state g.S.CellStore.state c.value_in.new.work in
    let own = set_up c.in-Ok.board in
    let P : Position → Type 0 = λ q.
    Finds s t (position_fault q) (position_items s.rest.limit q) (position_form q) c.widen.result in
    subst P (sym c.in-Ok.ensures.read) (subst (λ f. Finds s t f (position_items s.rest.limit own) (position_form own)
    c.widen.result) (sym (board-none c.in-Ok.board)) (finds s t (position_items s.rest.limit own) (position_form own)
    c.value_in.result c.widen.result c.widen.ensures c.value_in.ensures))

pub returns-else-is_memory : goal.returns-else-is_memory
returns-else-is_memory g c = (
  ap position_fault (is-faulty (position_of c.args.kind c.args.rules.now c.args.board.now) c.in-Err.fault
      c.in-Err.ensures.refused (sym c.if-is_memory.ensures)),
  keeps_all (work_state g.S.CellStore.state c.args.work.now),
)

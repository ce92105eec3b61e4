use Rattle.std.proofs.Common.{ap, refl, ◌∙◌}
use Rattle.cg_cells.specs.Store.{thing_at}
use Rattle.cg_nimbers.specs.Nimbers.{zero_form}
use Rattle.cg_nodes.specs.Spelled.{game_meaning}
use Rattle.cg_thread_rows.proofs.Sums.{zero_note}
use Rattle.cg_thread_rows.proofs.notes.note_zero.Goals as goal

pub note-requires-clause-due : goal.note-requires-clause-due
note-requires-clause-due g c =
    let s = g.S.CellStore.state c.zero_and_pair-zero.new.store in
    zero_note (game_meaning (λ n r c cs. zero_form)) _ _ refl (ap (thing_at s) c.id.ensures ∙ c.zero_and_pair-zero.ensures.zero) c.zero_and_pair-zero.ensures.pair

use Rattle.std.proofs.Common.{Some, ap, ◌∙◌}
use Rattle.cg_nodes.specs.Games.{game_at}
use Rattle.cg_nodes.specs.Meant.{form}
use Rattle.cg_canon.proofs.PairSums.{can-sum_comm}
use Rattle.cg_canon.proofs.pair_cells.pair.Goals as goal

pub returns-else-number-clause-note : goal.returns-else-number-clause-note
returns-else-number-clause-note g c =
    let s = g.S.CellStore.state c.args.store.now in
    let note = c.ordered_pair-else-number.ensures.note in
    (note.0, note.1 ∙ ap (λ z. Some (form z)) (can-sum_comm (game_at s c.args.b) (game_at s c.args.a)))

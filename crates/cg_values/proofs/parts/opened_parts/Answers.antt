use Rattle.std.proofs.Common.{sym, ◌∙◌}
use Rattle.cg_values.proofs.Opening.{cuts_there, opened_by_pieces}
use Rattle.cg_values.proofs.parts.opened_parts.Goals as goal

pub returns-in-Cut-clause-graph : goal.returns-in-Cut-clause-graph
returns-in-Cut-clause-graph g c =
    let r = g.R.Rules.game c.args.rules.now in
    opened_by_pieces r c.args.start.now c.open_pieces.result
    (cuts_there r c.args.start.now _ (sym c.in_ok-pieces.ensures ∙ c.in-Cut.is))
    c.open_pieces.ensures.boards c.open_pieces.ensures.next c.open_pieces.ensures.starts

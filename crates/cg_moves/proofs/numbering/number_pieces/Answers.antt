use Rattle.std.proofs.Common.{◌∙◌}
use Rattle.cg_moves.proofs.Numberings.{all_pieces-same}
use Rattle.cg_moves.proofs.numbering.number_pieces.Goals as goal

pub number_all-requires : goal.number_all-requires
number_all-requires g c =
    let r = g.R.Rules.game c.args.rules.now in
    rw (c.deref.ensures.value ∙ c.in_ok-pieces_of_all_into.ensures.pieces c.requires.cuts) (all_pieces-same r c.requires.each
    c.args.linked.now.found c.args.boards.now c.requires.has c.requires.same_symbols)

use Rattle.std.proofs.Common.{◌*◌}
use Rattle.cg_moves.proofs.WordBits.{shifted_back}
use Rattle.cg_pieces.proofs.GrowingSets.{moved_back}
use Rattle.cg_pieces.proofs.RowWords.{cut-whole}
use Rattle.cg_pieces.proofs.frame.cut_rows.Goals as goal

pub returns : goal.returns
returns c =
    let start = c.args.frame.top * c.args.columns in
    cut-whole c.args.word c.args.columns c.args.frame c.requires.inside c.requires.whole (moved_back c.args.word start)
    c.all_cells.result (shifted_back c.args.word start) c.all_cells.ensures

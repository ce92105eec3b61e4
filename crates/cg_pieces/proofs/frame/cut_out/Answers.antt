use Rattle.cg_pieces.proofs.RowWords.{cut-zero}
use Rattle.cg_pieces.proofs.frame.cut_out.Goals as goal

pub returns-then-word-eq0 : goal.returns-then-word-eq0
returns-then-word-eq0 c = cut-zero c.args.word c.args.columns c.args.frame c.if-word-eq0.true

use Rattle.cg_moves.proofs.WordBits.{shifted_on, shifted_on_first}
use Rattle.cg_moves.proofs.words.moved_on.Goals as goal

pub returns-then-by-lt64-clause-first : goal.returns-then-by-lt64-clause-first
returns-then-by-lt64-clause-first c i l = shifted_on_first c.args.word c.args.by i l c.if-by-lt64.true

pub returns-then-by-lt64-clause-others : goal.returns-then-by-lt64-clause-others
returns-then-by-lt64-clause-others c i = shifted_on c.args.word c.args.by i

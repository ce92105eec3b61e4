use Rattle.std.proofs.Common.{arith}
use Rattle.cg_values.proofs.ApartLemmas.{word_apart}
use Rattle.cg_values.proofs.contents.spread.Goals as goal

pub returns : goal.returns
returns c = word_apart c.args.bits (omega arith)

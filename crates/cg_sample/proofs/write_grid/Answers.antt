use Rattle.std.proofs.Common.{append_assoc}
use Rattle.std.proofs.lemmas.Result.{IfOk-weaker}
use Rattle.cg_sample.proofs.write_grid.Goals as goal

pub returns : goal.returns
returns c = IfOk-weaker c.writeln.result _ _ (λ _ h. simp append_assoc h) c.writeln.ensures.bytes

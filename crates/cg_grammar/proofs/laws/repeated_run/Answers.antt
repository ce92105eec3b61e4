use Rattle.cg_grammar.proofs.RepeatedRuns.{repeats_exactly}
use Rattle.cg_grammar.proofs.laws.repeated_run.Goals as goal

pub returns : goal.returns
returns c = repeats_exactly

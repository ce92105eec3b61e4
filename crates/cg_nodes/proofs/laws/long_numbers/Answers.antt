use Rattle.std.proofs.Common.{refl}
use Rattle.cg_dyadic.specs.Number.{exp_of, num_of}
use Rattle.cg_nodes.specs.Longs.{is_negative}
use Rattle.cg_nodes.proofs.LongSteps.{few_cells, long_again, long_only}
use Rattle.cg_nodes.proofs.laws.long_numbers.Goals as goal

pub returns : goal.returns
returns c = record {
  written = λ x r l. long_again x r l (is_negative (num_of x)) (exp_of x) _ refl refl refl;
  only = λ b e cs t h. long_only b e cs t h;
  few = few_cells;
}

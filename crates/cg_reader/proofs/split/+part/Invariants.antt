use Rattle.std.proofs.Common.{◌+◌, ◌*◌}
use Rattle.cg_reader.proofs.split.+part.Given as goal

abbrev pub decreases-split_part : goal.decreases-split_part
decreases-split_part l = 2 * l.most

abbrev pub decreases-part : goal.decreases-part
decreases-part l = 2 * l.most + 1

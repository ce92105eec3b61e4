use Rattle.cg_names.proofs.Ranges.{name_range}
use Rattle.cg_names.proofs.ReadBack.{name_reads}
use Rattle.cg_names.proofs.laws.names_read_back.Goals as goal

pub returns : goal.returns
returns c = record { reads = name_reads; in_range = name_range }

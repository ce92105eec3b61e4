use Rattle.cg_writer.proofs.Writable.{line_writable}
use Rattle.cg_writer.proofs.WrittenReads.{question_reads}
use Rattle.cg_writer.proofs.laws.written_reads.Goals as goal

pub returns : goal.returns
returns c line q m l = question_reads q (line_writable line q m) l

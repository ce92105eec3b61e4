use Rattle.std.proofs.Common.{ap, arith}
use Rattle.cg_io.specs.Supply.{Supply}
use Rattle.cg_io.proofs.Copies.{copied_front}
use Rattle.cg_io.proofs.memory_source.MemorySourceSource.read.Goals as goal

pub returns-clause-bytes : goal.returns-clause-bytes
returns-clause-bytes c =
    copied_front c.self.inside.bytes.items c.deref-2.result.now c.args.self.now.bytes c.args.buffer.now c.copy_from_slice.new.self
    c.self.inside.at c.min-count.result (ap (λ (s : Supply). s.bytes) c.self.view_is) c.deref-2.ensures.value
    c.copy_from_slice.ensures.after (omega (arith, c.min.ensures, c.min-count.ensures))
    (omega (arith, c.min.ensures, c.min-count.ensures)) (λ none some. omega (arith, c.min.ensures, c.min-count.ensures))

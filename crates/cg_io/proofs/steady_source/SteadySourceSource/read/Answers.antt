use Rattle.std.proofs.Common.{arith}
use Rattle.cg_io.proofs.Copies.{copied_front}
use Rattle.cg_io.proofs.steady_source.SteadySourceSource.read.Goals as goal

pub returns-clause-bytes : goal.returns-clause-bytes
returns-clause-bytes c =
    copied_front c.self.inside.bytes.items c.deref.result.now c.args.self.now c.args.buffer.now c.copy_from_slice.new.self
    c.self.inside.at c.min-count.result c.self.view_is c.deref.ensures.value c.copy_from_slice.ensures.after
    (omega (arith, c.min-count.ensures)) (omega (arith, c.min-count.ensures)) (λ none some. omega (arith, c.min-count.ensures))

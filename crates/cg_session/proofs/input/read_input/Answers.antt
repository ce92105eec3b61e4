use Rattle.std.proofs.Common.{ℕ, ◌++◌, take, length-append, length-take, arith}
use Rattle.std.proofs.KnownBytes.{Consumes-trans}
use Rattle.cg_session.proofs.input.read_input.Goals as goal

pub returns-then-is_err-clause-taken : goal.returns-then-is_err-clause-taken
returns-then-is_err-clause-taken g c =
    let old = c.loop-buffer.input.items in
    let chunk = take c.in-Ok.count c.read.new.buffer in (
      old ++ chunk,
      Consumes-trans _ _ _ old chunk c.loop-buffer.invariant.taken c.in-Ok.ensures.bytes.0,
      omega (arith, length-append old chunk, c.in-Ok.ensures.bound.0, c.in-Ok.ensures.bound.1, c.read.auto.buffer, length-take {A = ℕ}),
    )

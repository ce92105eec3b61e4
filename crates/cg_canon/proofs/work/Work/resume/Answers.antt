use Rattle.std.proofs.Common.{arith}
use Rattle.cg_canon.proofs.work.Work.resume.Goals as goal

pub invariant_of-result : goal.invariant_of-result
invariant_of-result g c =
    let few = c.spare-start.ensures.few in
    let same = c.spare-start.ensures.value in
    let spare = c.requires.spare in (
      record { within = omega arith; room = omega arith; small = omega arith; fallen = omega arith; enough = omega arith },
      c.requires.cache,
    )

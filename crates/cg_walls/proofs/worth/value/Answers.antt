use Rattle.std.proofs.Common.{arith}
use Rattle.cg_walls.proofs.Walking.{next-after}
use Rattle.cg_walls.proofs.worth.value.Goals as goal

pub loop-p-smaller : goal.loop-p-smaller
loop-p-smaller c =
    let r = c.args.rise.now in
    let i = c.loop-p.invariant in
    let j = i.inside in
    let e = c.requires.at in
    let n = next-after r c.loop-p.now c.loop-p.p (omega arith) i.place in
    let t = c.loop-p-test.true in let m = c.next.ensures in let k = c.next-to.ensures in
    omega arith

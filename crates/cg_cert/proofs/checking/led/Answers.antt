use Rattle.std.proofs.Common.{◌≡◌, ◌<◌, ◌^◌, length, arith}
use Rattle.cg_cert.proofs.Leading.{leads_to}
use Rattle.cg_cert.proofs.checking.led.Goals as goal

pub returns : goal.returns
returns g c =
    let arena = c.args.work.now.arena in
    let b = c.args.is_first in
    let all = c.in_ok-all.all in
    let count_is : c.len.result ≡ length all.items = omega (arith, c.len.ensures, all.ok.0) in
    let small : c.len.result < 2 ^ 64 = omega (arith, count_is, all.ok.0, all.ok.1, all.small) in
    leads_to arena b c.args.stage.now all.items c.len.result (record {
      stage = c.requires;
      are = rw c.moved.ensures at c.in_ok-all.ensures;
      count_is = count_is;
      small = small;
    }) c.args.digits.now c.in-Some.place c.index.result.now c.kept.result c.staged.result
    (rw c.in-Some.is at c.in_ok-place_of.ensures) c.index.ensures c.kept.ensures c.staged.ensures

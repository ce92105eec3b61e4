use Rattle.std.proofs.Common.{refl, arith}
use Rattle.cg_nimbers.proofs.NumberUpStars.{sum-numbers_equal}
use Rattle.cg_canon.proofs.number_up_star.NumberUpStar.plus.Goals as goal

pub returns-in-Ok : goal.returns-in-Ok
returns-in-Ok c = record {
  number = (let e = sum-numbers_equal c.args.self.now.number c.args.other.now.number c.in-Ok.number c.in-Ok.ensures.0 in (e.1, e.0));
  ups = (let u = c.in_ok-ups.ensures in let d = c.in_ok-downs.ensures in let m = c.min-both.ensures in omega arith);
  star = refl;
}

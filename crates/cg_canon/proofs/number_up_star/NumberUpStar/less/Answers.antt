use Rattle.std.proofs.Common.{ap, ◌∙◌, arith}
use Rattle.std.specs.Prelude.{bit_xor}
use Rattle.std.specs.Int.Bits.{xor_assoc, xor_self, xor_zero_r}
use Rattle.cg_nimbers.proofs.NumberUpStars.{less-numbers_equal}
use Rattle.cg_canon.proofs.number_up_star.NumberUpStar.less.Goals as goal

pub returns-in-Ok : goal.returns-in-Ok
returns-in-Ok c =
    let own = c.args.self.now in
    let other = c.args.other.now in
    record {
      number = less-numbers_equal own.number other.number c.negate.result c.in-Ok.number c.negate.ensures c.in-Ok.ensures.0;
      ups = (let u = c.in_ok-ups.ensures in let d = c.in_ok-downs.ensures in let m = c.min-both.ensures in omega arith);
      star = xor_assoc own.star other.star other.star
          ∙ (ap (bit_xor own.star) (xor_self other.star) ∙ xor_zero_r own.star);
    }

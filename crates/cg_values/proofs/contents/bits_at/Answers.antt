use Rattle.std.proofs.Common.{◌≡◌, ◌*◌, ◌-◌, ◌/◌, ◌%◌, ◌^◌, ◌∙◌, ap, arith, bit_and}
use Rattle.std.proofs.lemmas.Nat.{and_mask}
use Rattle.cg_values.proofs.ApartLemmas.{power-few}
use Rattle.cg_values.proofs.contents.bits_at.Goals as goal

pub returns : goal.returns
returns c =
    let few = power-few c.args.count c.requires.few in
    let mask : 1 * 2 ^ c.args.count % 18446744073709551616 ≡ 2 ^ c.args.count = omega arith in
    ap (λ z. bit_and (c.args.word / 2 ^ c.args.start) (z - 1)) mask ∙ and_mask (c.args.word / 2 ^ c.args.start) c.args.count

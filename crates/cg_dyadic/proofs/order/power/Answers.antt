use Rattle.std.proofs.Common.{◌≡◌, ◌*◌, ◌%◌, ◌^◌, ◌<◌, ap, ◌∙◌, arith}
use Rattle.std.proofs.lemmas.Nat.{one_shl}
use Rattle.std.proofs.lemmas.Int.{to_z_pos}
use mir.Syntax.{w128}
use mir.Val.{to_z}
use Rattle.cg_dyadic.proofs.Words.{power_bound}
use Rattle.cg_dyadic.proofs.order.power.Goals as goal

pub returns : goal.returns
returns c =
    let small : 2 ^ c.args.exp < 2 ^ 127 = omega (arith, power_bound c.args.exp c.requires) in
    let shifted : (1 * 2 ^ c.args.exp) % 2 ^ 128 ≡ 2 ^ c.args.exp = one_shl c.args.exp 128 (omega arith) in
    ap (to_z w128) shifted ∙ to_z_pos w128 (2 ^ c.args.exp) small

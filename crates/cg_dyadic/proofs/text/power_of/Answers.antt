use Rattle.std.proofs.Common.{◌≡◌, ◌*◌, ◌%◌, ◌^◌, ◌∙◌, sym, ap, arith}
use Rattle.std.proofs.lemmas.Nat.{one_shl}
use Rattle.cg_dyadic.proofs.Powers.{power_between}
use Rattle.cg_dyadic.proofs.text.power_of.Goals as goal

pub returns-else-den-exp-clause-power : goal.returns-else-den-exp-clause-power
returns-else-den-exp-clause-power c = λ k e.
    let shifted : (1 * 2 ^ c.in_ok-exp.exp) % 2 ^ 128 ≡ 2 ^ c.in_ok-exp.exp = one_shl c.in_ok-exp.exp 128 c.in_ok-exp.ensures.bound in
    let least = c.in_ok-exp.ensures.power_le in
    let most = c.in_ok-exp.ensures.next_power_gt in
    let same : k ≡ c.in_ok-exp.exp = power_between k c.in_ok-exp.exp (omega arith) (omega arith) in
    c.if-den-exp.false (e ∙ ap (λ n. 2 ^ n) same ∙ sym shifted)

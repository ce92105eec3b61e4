use Rattle.std.proofs.Common.{rules}
use Rattle.cg_arena.proofs.Interning.{counted, few}
use Rattle.cg_arena.proofs.arena.Arena.at.Goals as goal

pub overflow_cast-place : goal.overflow_cast-place
overflow_cast-place c =
    let n = few c.self.inside c.args.self.now c.self.invariant c.self.view_is in
    let m = counted c.self.inside c.args.self.now c.self.invariant c.self.view_is in
    search (rules, c.len.ensures, c.if-place-len.true)

pub returns-then-place-len-clause-some : goal.returns-then-place-len-clause-some
returns-then-place-len-clause-some c =
    let m = counted c.self.inside c.args.self.now c.self.invariant c.self.view_is in
    search (rules, c.at.ensures, c.len.ensures, c.if-place-len.true)

pub returns-clause-none : goal.returns-clause-none
returns-clause-none c =
    let m = counted c.self.inside c.args.self.now c.self.invariant c.self.view_is in
    search (rules, c.len.ensures, c.if-place-len.false)

use Rattle.std.proofs.Common.{rules}
use Rattle.cg_arena.proofs.Interning.{counted}
use Rattle.cg_arena.proofs.arena.Arena.count.Goals as goal

pub returns : goal.returns
returns c =
    let n = counted c.self.inside c.args.self.now c.self.invariant c.self.view_is in
    search rules

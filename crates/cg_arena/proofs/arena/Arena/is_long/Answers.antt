use Rattle.std.proofs.Common.{arith}
use Rattle.cg_arena.proofs.Interning.{counted}
use Rattle.cg_arena.proofs.arena.Arena.is_long.Goals as goal

pub index-entry-requires : goal.index-entry-requires
index-entry-requires c =
    let n = counted c.self.inside c.args.self.now c.self.invariant c.self.view_is in
    let r = c.requires in
    omega arith

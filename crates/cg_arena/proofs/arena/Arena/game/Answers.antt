use Rattle.std.proofs.Common.{arith}
use Rattle.cg_arena.proofs.Interning.{few}
use Rattle.cg_arena.proofs.arena.Arena.game.Goals as goal

pub overflow_cast-place : goal.overflow_cast-place
overflow_cast-place c =
    let n = few c.self.inside c.args.self.now c.self.invariant c.self.view_is in
    omega (arith, n, c.requires)

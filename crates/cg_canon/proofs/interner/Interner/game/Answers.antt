use Rattle.std.proofs.Common.{arith}
use Rattle.cg_canon.proofs.interner.Interner.game.Goals as goal

pub game-requires : goal.game-requires
game-requires c =
    let count = c.requires.count in
    let within = c.in-Some.ensures.found.0 in
    omega arith

pub returns-in-Some-clause-game : goal.returns-in-Some-clause-game
returns-in-Some-clause-game c = rw c.game.ensures (record { within = c.in-Some.ensures.found.0; is = c.in-Some.ensures.found.1 })

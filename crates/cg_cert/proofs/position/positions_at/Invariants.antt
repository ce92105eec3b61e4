use Rattle.std.proofs.Common.{◌≡◌, map, take}
use Rattle.cg_cert.specs.declared.position.Position.TheVariants.{At}
use Rattle.cg_cert.proofs.position.positions_at.Given as goal

abbrev pub invariant-loop-game : goal.invariant-loop-game
invariant-loop-game l = l.all.items ≡ map At (take l.game-index l.games)

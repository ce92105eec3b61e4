use Rattle.std.proofs.Common.{◌≡◌, ◌++◌, map, take}
use Rattle.cg_cert.specs.Positions.{staged}
use Rattle.cg_cert.proofs.stage.with_stages.Given as goal

abbrev pub invariant-loop-position : goal.invariant-loop-position
invariant-loop-position l =
    l.all.items ≡ l.fn.found.items ++ map (staged l.is_first l.other) (take l.position-index l.positions)

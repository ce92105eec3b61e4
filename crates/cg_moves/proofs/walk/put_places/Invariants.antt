use Rattle.std.proofs.Common.{◌≡◌, ◌++◌, ◌-◌, get_or, map, take}
use Rattle.cg_moves.proofs.walk.put_places.Given as goal

abbrev pub invariant-loop-number : goal.invariant-loop-number
invariant-loop-number l = l.places.items ≡ l.fn.places.items ++ map (λ n. get_or l.ranks n 0 - 1) (take l.number-index l.numbers)

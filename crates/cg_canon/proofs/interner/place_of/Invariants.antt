use lib.Dec.{eqb}
use Rattle.std.proofs.Common.{◌≡◌, false, take}
use Rattle.std.specs.List.{list_any}
use Rattle.cg_canon.proofs.interner.place_of.Given as goal

abbrev pub invariant-loop-i : goal.invariant-loop-i
invariant-loop-i l = list_any (eqb l.number) (take l.i l.handles) ≡ false

-- What a call hands on.
use Rattle.std.proofs.Common.{◌≡◌}
use Rattle.std.specs.Prelude.{Err, IsErrAnd, Ok, Result}
use Rattle.cg_moves.specs.declared.fault.ReachFault.{ReachFault}
use Rattle.cg_moves.specs.declared.fault.ReachFault.TheVariants.{Positions}

-- where a call hands on that there are too many boards, the call within it told so
pub passed_on : {A B : Type 0} (x : ReachFault) (r : Result A ReachFault) → IsErrAnd r (λ y. y ≡ x) → r ≡ Err Positions
    → ◌≡◌ {A = Result B ReachFault} (Err x) (Err Positions)
passed_on x (Err y) told e = cc
passed_on x (Ok y) told e = absurd told

-- What is given, along an equation.
use Rattle.std.proofs.Common.{◌≡◌, ℕ, Result, ap, sym, subst}
use Rattle.cg_reading.specs.declared.fault.ReadFault.{ReadFault}
use Rattle.cg_reading.specs.declared.fault.ReadFault.TheVariants as faults
use Rattle.cg_reading.specs.Readers.{◌>>=◌}
use Rattle.cg_reading.specs.Gives.{Fails, Gives}

pub gives_along : {X Y : Type 0} (view : X → Y) (r : Result X ReadFault) (a b : Result Y ℕ) → b ≡ a → Gives view r a → Gives view r b
gives_along view r a b e h = subst (λ (x : Result _ ℕ). Gives view r x) (sym e) h

pub fails_on : {Y : Type 0} (e : ReadFault) (a b : Result Y ℕ) → b ≡ a → Fails e a → Fails e b
fails_on e a b s h = subst (λ (x : Result _ ℕ). Fails e x) (sym s) h

pub fails_bind : {Y Z : Type 0} (e : ReadFault) (x : Result Y ℕ) (k : Y → Result Z ℕ) → Fails e x → Fails e (x >>= k)
fails_bind faults.Memory x k h = tt
fails_bind (faults.Stuck n) x k h = ap (λ z. z >>= k) h

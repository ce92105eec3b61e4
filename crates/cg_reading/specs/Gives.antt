-- What a function of the code returns, and what reading gives.
use Rattle.std.specs.Prelude.{ℕ, ◌≡◌, Result, Ok, Err}
use Rattle.cg_reading.specs.declared.fault.ReadFault.{ReadFault}
use Rattle.cg_reading.specs.declared.fault.ReadFault.TheVariants as faults

abbrev pub Fails : {Y : Type 0} → ReadFault → Result Y ℕ → Type 0
Fails faults.Memory read = Unit {0}
Fails (faults.Stuck left) read = read ≡ Err left

-- what was returned, seen by view, is what reading gives, unless memory ran out
abbrev pub Gives : {X Y : Type 0} → (X → Y) → Result X ReadFault → Result Y ℕ → Type 0
Gives view (Ok x) read = read ≡ Ok (view x)
Gives view (Err e) read = Fails e read

-- What an Ok or an Err of a walk tells.
use Rattle.std.proofs.Common.{◌≡◌, ℕ, ◌<◌, ◌≤◌, List, [], ◌∷◌, ◌++◌, length, length-append, arith, ap, sym, subst}
use Rattle.std.specs.Prelude.{Result, Ok, Err, OnOk}
use Rattle.cg_nodes.specs.declared.fault.PositionsFault.{PositionsFault}
use Rattle.cg_nodes.specs.declared.fault.PositionsFault.TheVariants.{Positions}

-- a fault that is passed on
pub passed_on : {A : Type 0} (x y : PositionsFault) (r : Result A PositionsFault) → r ≡ Err x → x ≡ y
    → r ≡ Err Positions → y ≡ Positions
passed_on x y r e f g = cc

-- what holds at one list holds at an equal list
pub ok_at : {A E : Type 0} (P : List ℕ → Type 0) (r : Result A E) (more xs : List ℕ) → OnOk r (more ≡ xs) → P xs
    → OnOk r (P more)
ok_at P (Ok a) more xs e h = subst P (sym e) h
ok_at P (Err e) more xs i h = tt

-- one more than fewer than the limit
pub ok_within : {A E : Type 0} (r : Result A E) (more xs : List ℕ) (x limit : ℕ) → OnOk r (more ≡ xs ++ (x ∷ []))
    → OnOk r (length xs < limit) → OnOk r (length more ≤ limit)
ok_within (Ok a) more xs x limit e h = let l = ap length e in let m = length-append xs (x ∷ []) in omega arith
ok_within (Err e) more xs x limit i h = tt

-- what follows where a value is Ok
pub ok_then : {A E P Q : Type 0} (r : Result A E) → (P → Q) → OnOk r P → OnOk r Q
ok_then (Ok a) f h = f h
ok_then (Err e) f h = tt

-- Lists that grow while the values of heaps are found.
use Rattle.std.specs.Prelude.{◌≡◌, ℕ, suc, ◌<◌, ◌==◌, Bool, List, ◌++◌, length, Some, slice_get}
use Rattle.std.specs.List.{list_any}
use Rattle.cg_form.specs.Game.{Game}
use Rattle.cg_octal.specs.Mex.{AreNimbers, Listed}

-- behind a list were put the numbers of the nimbers that these games equal, in order, each below the bound
pub record Adds (bound : ℕ) (games : List Game) (before after : List ℕ) : Type 0 where
  pub added : List ℕ
  pub put : after ≡ before ++ added
  pub are_nimbers : AreNimbers games added
  pub below : (k : ℕ) → Listed k added → k < bound

-- whether the number is in the list
abbrev pub is_listed : List ℕ → ℕ → Bool
is_listed ks i = list_any (λ k. k == i) ks

-- for each number from 0 up to the length of the list, in its place, whether the list has it
pub record AreMarks (ks : List ℕ) (marks : List Bool) : Type 0 where
  pub count : length marks ≡ suc (length ks)
  pub each : (i : ℕ) → i < length marks → slice_get marks i ≡ Some (is_listed ks i)

-- What calls leave as it is in a store.
use Rattle.std.specs.Prelude.{◌≡◌}
use Rattle.cg_cells.specs.Meaning.{Grows}
use Rattle.cg_cells.specs.Store.{IsSublist, State, thing_at}

-- what was known and noted stays so, and the rest is the same
pub record KeepsStore {X R : Type 0} (s t : State X R) : Type 0 where
  pub known : Grows (thing_at s) (thing_at t)
  pub noted : IsSublist s.noted t.noted
  pub rest : t.rest ≡ s.rest

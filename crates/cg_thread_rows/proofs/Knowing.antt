-- What is known stays known.
use Rattle.std.proofs.Common.{◌≡◌, ℕ, Option, Some, None, refl, ap}
use Rattle.std.specs.Prelude.{IsSome, is_some}
use Rattle.cg_cells.specs.Meaning.{Grows}

module _ {X : Type 0} (f g : ℕ → Option X) (grows : Grows f g) (id : ℕ) where
  by_thing : (o : Option X) → f id ≡ o → IsSome o → IsSome (g id)
  by_thing None e s = absurd cc
  by_thing (Some t) e s = ap is_some (grows id t e)

  pub known_grows : IsSome (f id) → IsSome (g id)
  known_grows s = by_thing (f id) refl s

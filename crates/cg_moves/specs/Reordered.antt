-- The members of a list in another order.
use Rattle.std.specs.Prelude.{◌≡◌, List, [], ◌∷◌, ◌++◌}

-- the second list has the members of the first, each as often: the first member stands somewhere in it, and the others are
-- what is left
abbrev pub IsReordered : {X : Type 0} → List X → List X → Type 0
IsReordered {X} [] ys = ys ≡ []
IsReordered {X} (x ∷ xs) ys = (us : List X) × (vs : List X) × (ys ≡ us ++ (x ∷ vs)) × IsReordered xs (us ++ vs)

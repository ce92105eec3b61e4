-- The greatest of a list, by an order; the least is the greatest by the turned order.
use Rattle.std.specs.Prelude.{Bool, if◌then◌else◌, List, [], ◌∷◌}

-- the greater of two
abbrev pub greater_by : {A : Type 0} → (A → A → Bool) → A → A → A
greater_by {A} le x y = if le x y then y else x

-- the greatest of a list, which is asked only of lists that are not empty; of the empty list it is `given`
abbrev pub greatest_by : {A : Type 0} → (A → A → Bool) → A → List A → A
greatest_by {A} le given [] = given
greatest_by {A} le given (x ∷ []) = x
greatest_by {A} le given (x ∷ (y ∷ ys)) = greater_by le x (greatest_by le given (y ∷ ys))

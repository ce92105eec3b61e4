-- Lists in which a thing may come more than once, over any type with a test of whether two things are one.
use Rattle.std.specs.Prelude.{◌≡◌, ◌⊎◌, ◌||◌, Bool, false, not, filter, if◌then◌else◌, List, [], ◌∷◌, ◌++◌}

-- the thing is in the list
abbrev pub In : {X : Type 0} → X → List X → Type 0
In {X} x [] = ⊥
In {X} x (y ∷ ys) = (x ≡ y) ⊎ In x ys

-- nothing is in the list twice
abbrev pub EachOnce : {X : Type 0} → List X → Type 0
EachOnce {X} [] = Unit {0}
EachOnce {X} (x ∷ xs) = (¬ In x xs) × EachOnce xs

module _ {X : Type 0} (same : X → X → Bool) where
  -- the list without what is the same as x
  abbrev pub without : X → List X → List X
  without x ys = filter (λ y. not (same x y)) ys

  -- each thing only where it comes first
  abbrev pub once : List X → List X
  once [] = []
  once (x ∷ xs) = x ∷ without x (once xs)

  -- whether the thing is in the list
  abbrev pub is_in : List X → X → Bool
  is_in [] y = false
  is_in (x ∷ xs) y = same x y || is_in xs y

  -- the list with the thing behind it, unless it is there
  abbrev pub one_more : List X → X → List X
  one_more seen x = if is_in seen x then seen else seen ++ (x ∷ [])

  -- the things of the second list behind the first list, each only where it comes first
  abbrev pub extended : List X → List X → List X
  extended seen [] = seen
  extended seen (x ∷ xs) = extended (one_more seen x) xs

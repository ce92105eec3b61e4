-- Members of lists.
use Rattle.std.proofs.Common.{◌≡◌, refl, zero, suc, inl, inr, ap, ◌∙◌, List, [], ◌∷◌, ◌++◌, map, arith}
use Rattle.std.specs.Prelude.{All}
use Rattle.std.specs.List.{flat_map}
use Rattle.cg_form.proofs.Firsts.{in-append, in-append_left, in-append_right}
use Rattle.cg_moves.specs.Rules.{In}

module _ {X : Type 0} where
  -- along an equation of lists
  pub carry : (x : X) (xs ys : List X) → xs ≡ ys → In x xs → In x ys
  carry x xs ys e m = rw (← e) m

  pub in_equal : (x y : X) (xs : List X) → x ≡ y → In y xs → In x xs
  in_equal x y xs e m = rw e m

  pub in_one : (x y : X) → In x (y ∷ []) → x ≡ y
  in_one x y (inl e) = e
  in_one x y (inr m) = absurd m

  pub all_from : (P : X → Type 0) (xs : List X) → ((x : X) → In x xs → P x) → All P xs
  all_from P [] h k d below = absurd (omega arith)
  all_from P (x ∷ xs) h zero d below = h x (inl refl)
  all_from P (x ∷ xs) h (suc k) d below = all_from P xs (λ y m. h y (inr m)) k d (omega arith)

module _ {X Y : Type 0} (f : X → Y) where
  pub in_mapped : (x : X) (xs : List X) → In x xs → In (f x) (map f xs)
  in_mapped x [] m = absurd m
  in_mapped x (z ∷ xs) (inl e) = inl (ap f e)
  in_mapped x (z ∷ xs) (inr m) = inr (in_mapped x xs m)

  pub in-map : (y : Y) (xs : List X) → In y (map f xs) → (x : X) × In x xs × (y ≡ f x)
  in-map y [] m = absurd m
  in-map y (z ∷ xs) (inl e) = (z, inl refl, e)
  in-map y (z ∷ xs) (inr m) = let (x, k, e) = in-map y xs m in (x, inr k, e)

module _ {X Y : Type 0} where
  pub map-agree : (f k : X → Y) (xs : List X) → ((x : X) → In x xs → f x ≡ k x) → map f xs ≡ map k xs
  map-agree f k [] h = refl
  map-agree f k (x ∷ xs) h =
      ap (λ z. z ∷ map f xs) (h x (inl refl)) ∙ ap (λ z. k x ∷ z) (map-agree f k xs (λ y m. h y (inr m)))

  pub flat_map-agree : (f k : X → List Y) (xs : List X) → ((x : X) → In x xs → f x ≡ k x) → flat_map f xs ≡ flat_map k xs
  flat_map-agree f k [] h = refl
  flat_map-agree f k (x ∷ xs) h =
      ap (λ z. z ++ flat_map f xs) (h x (inl refl)) ∙ ap (λ z. k x ++ z) (flat_map-agree f k xs (λ y m. h y (inr m)))

  pub in-flat_map : (f : X → List Y) (y : Y) (xs : List X) → In y (flat_map f xs) → (x : X) × In x xs × In y (f x)
  in-flat_map f y [] m = absurd m
  in-flat_map f y (z ∷ xs) m = elim (in-append y (f z) (flat_map f xs) m) [
    | inl k ↦ (z, inl refl, k)
    | inr k ↦ (let (x, n, l) = in-flat_map f y xs k in (x, inr n, l))
  ]

  pub in_flat_mapped : (f : X → List Y) (y : Y) (x : X) (xs : List X) → In x xs → In y (f x) → In y (flat_map f xs)
  in_flat_mapped f y x [] m k = absurd m
  in_flat_mapped f y x (z ∷ xs) (inl e) k =
      in-append_left y (f z) (flat_map f xs) (rw (← e) k)
  in_flat_mapped f y x (z ∷ xs) (inr m) k = in-append_right y (f z) (flat_map f xs) (in_flat_mapped f y x xs m k)

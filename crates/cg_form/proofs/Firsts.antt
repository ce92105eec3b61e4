-- Lists in which each thing is kept only where it comes first, over any type with a test of sameness.
use Rattle.std.proofs.Common.{◌≡◌, refl, ◌≤◌, Bool, true, false, not, cond, ◌&&◌, ◌||◌, if◌then◌else◌, ◌⊎◌, inl, inr}
use Rattle.std.proofs.Common.{List, [], ◌∷◌, ◌++◌, filter, length, length-append, append_assoc, arith, ap, sym, ◌∙◌}
use Rattle.std.proofs.lemmas.List.{append-nil}
use Rattle.cg_form.specs.Firsts.{EachOnce, In, extended, is_in, once, one_more, without}

-- ---- members

module _ {X : Type 0} where
  pub in-append_left : (x : X) (xs ys : List X) → In x xs → In x (xs ++ ys)
  in-append_left x [] ys m = absurd m
  in-append_left x (z ∷ xs) ys (inl e) = inl e
  in-append_left x (z ∷ xs) ys (inr m) = inr (in-append_left x xs ys m)

  pub in-append_right : (x : X) (xs ys : List X) → In x ys → In x (xs ++ ys)
  in-append_right x [] ys m = m
  in-append_right x (z ∷ xs) ys m = inr (in-append_right x xs ys m)

  pub in-append : (x : X) (xs ys : List X) → In x (xs ++ ys) → In x xs ⊎ In x ys
  in-append x [] ys m = inr m
  in-append x (z ∷ xs) ys (inl e) = inl (inl e)
  in-append x (z ∷ xs) ys (inr m) = elim (in-append x xs ys m) [ inl k ↦ inl (inr k) | inr k ↦ inr k ]

-- a test that tells whether two things are one
pub record Test (X : Type 0) : Type 0 where
  pub same : X → X → Bool
  pub back : (x y : X) → same x y ≡ true → x ≡ y
  pub own : (x : X) → same x x ≡ true

module _ {X : Type 0} (t : Test X) where
  -- ---- the test

  pub is_in-true : (gs : List X) (h : X) → In h gs → is_in t.same gs h ≡ true
  is_in-true [] h m = absurd m
  is_in-true (g ∷ gs) h (inl e) = ap (λ k. t.same g k || is_in t.same gs h) e
      ∙ ap (λ b. b || is_in t.same gs h) (t.own g)
  is_in-true (g ∷ gs) h (inr m) = ap (λ b. t.same g h || b) (is_in-true gs h m) ∙ or_true (t.same g h)
    where
      or_true : (b : Bool) → (b || true) ≡ true
      or_true true = refl
      or_true false = refl

  pub is_in-back : (gs : List X) (h : X) → is_in t.same gs h ≡ true → In h gs
  is_in-back [] h e = cc
  is_in-back (g ∷ gs) h e = (elim (t.same g h) as (λ b. t.same g h ≡ b → (b || is_in t.same gs h) ≡ true
      → (h ≡ g) ⊎ In h gs) [
        | true ↦ λ s u. inl (sym (t.back g h s))
        | false ↦ λ s u. inr (is_in-back gs h u)
      ]) refl e

  pub in_or_not : (gs : List X) (h : X) → In h gs ⊎ (¬ In h gs)
  in_or_not gs h = (elim (is_in t.same gs h) as (λ b. is_in t.same gs h ≡ b → In h gs ⊎ (¬ In h gs)) [
    | true ↦ λ s. inl (is_in-back gs h s)
    | false ↦ λ s. inr (λ m. let u = is_in-true gs h m in cc)
  ]) refl

  pub is_in-false : (gs : List X) (h : X) → ¬ In h gs → is_in t.same gs h ≡ false
  is_in-false gs h out = (elim (is_in t.same gs h) as (λ b. is_in t.same gs h ≡ b → b ≡ false) [
    | true ↦ λ s. absurd (out (is_in-back gs h s))
    | false ↦ λ s. refl
  ]) refl

  -- ---- one more

  pub one_more-there : (seen : List X) (g : X) → In g seen → one_more t.same seen g ≡ seen
  one_more-there seen g m = ap (λ b. if b then seen else seen ++ (g ∷ [])) (is_in-true seen g m)

  pub one_more-new : (seen : List X) (g : X) → ¬ In g seen → one_more t.same seen g ≡ seen ++ (g ∷ [])
  one_more-new seen g out = ap (λ b. if b then seen else seen ++ (g ∷ [])) (is_in-false seen g out)

  pub one_more-keeps : (seen : List X) (g k : X) → In k seen → In k (one_more t.same seen g)
  one_more-keeps seen g k m = elim (in_or_not seen g) [
    | inl there ↦ rw (one_more-there seen g there) m
    | inr out ↦ rw (one_more-new seen g out) (in-append_left k seen (g ∷ []) m)
  ]

  pub one_more-has : (seen : List X) (g : X) → In g (one_more t.same seen g)
  one_more-has seen g = elim (in_or_not seen g) [
    | inl there ↦ rw (one_more-there seen g there) there
    | inr out ↦ rw (one_more-new seen g out) (in-append_right g seen (g ∷ []) (inl refl))
  ]

  pub one_more-among : (seen : List X) (g k : X) → In k (one_more t.same seen g) → In k seen ⊎ (k ≡ g)
  one_more-among seen g k m = elim (in_or_not seen g) [
    | inl there ↦ inl (rw (one_more-there seen g there) at m)
    | inr out ↦ elim (in-append k seen (g ∷ []) (rw (one_more-new seen g out) at m)) [
      | inl n ↦ inl n
      | inr n ↦ elim n [ inl e ↦ inr e | inr none ↦ absurd none ]
    ]
  ]

  pub one_more-longer : (seen : List X) (g : X) → length seen ≤ length (one_more t.same seen g)
  one_more-longer seen g = elim (in_or_not seen g) [
    | inl there ↦ (let e = ap length (one_more-there seen g there) in omega arith)
    | inr out ↦ (let e = ap length (one_more-new seen g out) in let l = length-append seen (g ∷ []) in omega arith)
  ]

  -- ---- many more

  pub extended-append : (seen xs ys : List X) → extended t.same seen (xs ++ ys) ≡ extended t.same (extended t.same seen xs) ys
  extended-append seen [] ys = refl
  extended-append seen (x ∷ xs) ys = extended-append (one_more t.same seen x) xs ys

  pub extended-keeps : (seen xs : List X) (k : X) → In k seen → In k (extended t.same seen xs)
  extended-keeps seen [] k m = m
  extended-keeps seen (x ∷ xs) k m = extended-keeps (one_more t.same seen x) xs k (one_more-keeps seen x k m)

  pub extended-has : (seen xs : List X) (k : X) → In k xs → In k (extended t.same seen xs)
  extended-has seen [] k m = absurd m
  extended-has seen (x ∷ xs) k (inl e) =
      rw e (extended-keeps (one_more t.same seen x) xs x (one_more-has seen x))
  extended-has seen (x ∷ xs) k (inr m) = extended-has (one_more t.same seen x) xs k m

  pub extended-among : (seen xs : List X) (k : X) → In k (extended t.same seen xs) → In k seen ⊎ In k xs
  extended-among seen [] k m = inl m
  extended-among seen (x ∷ xs) k m = elim (extended-among (one_more t.same seen x) xs k m) [
    | inl n ↦ elim (one_more-among seen x k n) [ inl o ↦ inl o | inr e ↦ inr (inl e) ]
    | inr n ↦ inr (inr n)
  ]

  -- nothing is added where all is there
  pub extended-there : (seen xs : List X) → ((k : X) → In k xs → In k seen) → extended t.same seen xs ≡ seen
  extended-there seen [] all = refl
  extended-there seen (x ∷ xs) all =
      ap (λ z. extended t.same z xs) (one_more-there seen x (all x (inl refl))) ∙ extended-there seen xs (λ k m. all k (inr m))

  pub extended-longer : (seen xs : List X) → length seen ≤ length (extended t.same seen xs)
  extended-longer seen [] = omega arith
  extended-longer seen (x ∷ xs) = let a = one_more-longer seen x in let b = extended-longer (one_more t.same seen x) xs in
      omega arith

  pub extended-length : (seen xs ys : List X) → length (extended t.same seen xs) ≤ length (extended t.same seen (xs ++ ys))
  extended-length seen xs ys =
      let a = extended-longer (extended t.same seen xs) ys in let e = ap length (extended-append seen xs ys) in omega arith

  -- ---- each only where it comes first

  each_once-more : (gs : List X) (g : X) → EachOnce gs → ¬ In g gs → EachOnce (gs ++ (g ∷ []))
  each_once-more [] g o out = (λ m. m, tt)
  each_once-more (h ∷ hs) g o out = (
    λ m. elim (in-append h hs (g ∷ []) m) [
      | inl n ↦ o.0 n
      | inr n ↦ elim n [ inl e ↦ out (inl (sym e)) | inr none ↦ absurd none ]
    ],
    each_once-more hs g o.1 (λ m. out (inr m)),
  )

  pub extended-once : (seen xs : List X) → EachOnce seen → EachOnce (extended t.same seen xs)
  extended-once seen [] o = o
  extended-once seen (x ∷ xs) o =
      extended-once (one_more t.same seen x) xs (elim (in_or_not seen x) [
        | inl there ↦ rw (one_more-there seen x there) o
        | inr out ↦ rw (one_more-new seen x out) (each_once-more seen x o out)
      ])

  -- ---- as a list without repetitions

  filter_agree : (p q : X → Bool) (xs : List X) → ((x : X) → p x ≡ q x) → filter p xs ≡ filter q xs
  filter_agree p q [] same = refl
  filter_agree p q (x ∷ xs) same =
      ap (λ b. cond b (x ∷ filter p xs) (filter p xs)) (same x)
      ∙ ap (λ z. cond (q x) (x ∷ z) z) (filter_agree p q xs same)

  filter_twice : (p q : X → Bool) (xs : List X) → filter p (filter q xs) ≡ filter (λ x. q x && p x) xs
  filter_twice p q [] = refl
  filter_twice p q (x ∷ xs) =
      let ih = filter_twice p q xs in
      elim (q x) as (λ b. filter p (cond b (x ∷ filter q xs) (filter q xs)) ≡ cond (b && p x) (x ∷ filter (λ x. q x &&
      p x) xs) (filter (λ x. q x && p x) xs)) [
        | true ↦ ap (λ z. cond (p x) (x ∷ z) z) ih
        | false ↦ ih
      ]

  -- the test of what isn't there yet
  abbrev is_new : List X → X → Bool
  is_new seen h = not (is_in t.same seen h)

  is_new-all : (xs : List X) → filter (is_new []) xs ≡ xs
  is_new-all [] = refl
  is_new-all (x ∷ xs) = ap (λ z. x ∷ z) (is_new-all xs)

  -- where x is there, what is new isn't x
  new_apart : (seen : List X) (x h : X) → In x seen → (not (t.same x h) && is_new seen h) ≡ is_new seen h
  new_apart seen x h m = (elim (t.same x h) as (λ b. t.same x h ≡ b → (not b && is_new seen h) ≡ is_new seen h) [
    | true ↦ λ s. (sym (ap not (is_in-true seen h (rw (t.back x h s) at m))))
    | false ↦ λ s. refl
  ]) refl

  new_with : (seen : List X) (x h : X) → (not (t.same x h) && is_new seen h) ≡ is_new (seen ++ (x ∷ [])) h
  new_with [] x h = elim (t.same x h) as (λ b. (not b && not false) ≡ not (b || false)) [ true ↦ refl | false ↦ refl ]
  new_with (g ∷ gs) x h =
      let ih = new_with gs x h in
      elim (t.same g h) as (λ b. (not (t.same x h) && not (b || is_in t.same gs h)) ≡ not (b || is_in t.same (gs ++ (x ∷ []))
      h)) [
        | true ↦ and_false (not (t.same x h))
        | false ↦ ih
      ]
    where
      and_false : (b : Bool) → (b && false) ≡ false
      and_false true = refl
      and_false false = refl

  extended-new : (seen xs : List X) → extended t.same seen xs ≡ seen ++ filter (is_new seen) (once t.same xs)
  extended-new seen [] = sym (append-nil seen)
  extended-new seen (x ∷ xs) = elim (in_or_not seen x) [
    | inl there ↦ (
        ap (λ z. extended t.same z xs) (one_more-there seen x there) ∙ extended-new seen xs
        ∙ ap (λ z. seen ++ z) (sym (filter_twice (is_new seen) (λ h. not (t.same x h)) (once t.same xs)
        ∙ filter_agree (λ h. not (t.same x h) && is_new seen h) (is_new seen) (once t.same xs) (λ h. new_apart seen x h there)))
        ∙ ap (λ b. seen ++ cond (not b) (x ∷ filter (is_new seen) (without t.same x (once t.same xs))) (filter (is_new seen) (without t.same
        x (once t.same xs))))
        (sym (is_in-true seen x there)))
    | inr out ↦ (
        ap (λ z. extended t.same z xs) (one_more-new seen x out) ∙ extended-new (seen ++ (x ∷ [])) xs
        ∙ append_assoc seen (x ∷ []) (filter (is_new (seen ++ (x ∷ []))) (once t.same xs))
        ∙ ap (λ z. seen ++ (x ∷ z)) (sym (filter_twice (is_new seen) (λ h. not (t.same x h)) (once t.same xs)
        ∙ filter_agree (λ h. not (t.same x h) && is_new seen h) (is_new (seen ++ (x ∷ []))) (once t.same xs) (new_with seen x)))
        ∙ ap (λ b. seen ++ cond (not b) (x ∷ filter (is_new seen) (without t.same x (once t.same xs))) (filter (is_new seen) (without t.same
        x (once t.same xs))))
        (sym (is_in-false seen x out)))
  ]

  -- the list with each thing only where it comes first
  pub once-extended : (xs : List X) → once t.same xs ≡ extended t.same [] xs
  once-extended xs = sym (extended-new [] xs ∙ is_new-all (once t.same xs))

-- Lists of cells with the same members have the same rising order.
use Rattle.std.proofs.lemmas.Bool.Decides.{nat_tests}
use Rattle.std.proofs.Common.{◌≡◌, refl, ℕ, inl, inr, List, [], ◌∷◌, ap, sym, ◌∙◌, arith}
use Rattle.std.specs.List.Sorted.{IsStrictlySortedBy}
use Rattle.std.specs.declared.cmp.Ordering.TheVariants.{Less}
use Rattle.std.proofs.lemmas.Cmp.{nat_list_cmp_total}
use Rattle.cg_moves.specs.Rising.{IsRising, bytes_cmp, rising}
use Rattle.cg_moves.specs.Rules.{In}
use Rattle.cg_moves.proofs.RisingLemmas.{each-in, in-rising, rising-in, rising-rises}

-- each member of the one list is one of the other
abbrev pub HasAll : List (List ℕ) → List (List ℕ) → Type 0
HasAll xs ys = (z : List ℕ) → In z xs → In z ys

not-before : (x y : List ℕ) → bytes_cmp x y ≡ Less → bytes_cmp y x ≡ Less → ⊥
not-before x y a b = grind (arith, nat_tests, nat_list_cmp_total)

not-itself : (x : List ℕ) → bytes_cmp x x ≡ Less → ⊥
not-itself x a = not-before x x a a

unique : (xs ys : List (List ℕ)) → IsRising xs → IsRising ys → HasAll xs ys → HasAll ys xs → xs ≡ ys
unfolding IsStrictlySortedBy
unique [] [] r s forth back = refl
unique [] (y ∷ ys) r s forth back = absurd (back y (inl refl))
unique (x ∷ xs) [] r s forth back = absurd (forth x (inl refl))
unique (x ∷ xs) (y ∷ ys) r s forth back =
    let e : x ≡ y = heads (forth x (inl refl)) (back y (inl refl)) in
    let tails = unique xs ys r.1 s.1
    (λ z m. elim (forth z (inr m)) [
      | inl f ↦ (absurd (not-itself x (rw (f ∙ sym e) at (each-in (λ w. bytes_cmp x w ≡ Less) xs z r.0 m))))
      | inr n ↦ n
    ])
    (λ z m. elim (back z (inr m)) [
      | inl f ↦ (absurd (not-itself y (rw (f ∙ e) at (each-in (λ w. bytes_cmp y w ≡ Less) ys z s.0 m))))
      | inr n ↦ n
    ]) in
    ap (λ w. w ∷ xs) e ∙ ap (λ w. y ∷ w) tails
  where
    heads : In x (y ∷ ys) → In y (x ∷ xs) → x ≡ y
    heads (inl e) m = e
    heads (inr n) (inl e) = sym e
    heads (inr n) (inr m) =
        absurd (not-before x y (each-in (λ w. bytes_cmp x w ≡ Less) xs y r.0 m)
        (each-in (λ w. bytes_cmp y w ≡ Less) ys x s.0 n))

pub rising-same : (xs ys : List (List ℕ)) → HasAll xs ys → HasAll ys xs → rising xs ≡ rising ys
rising-same xs ys forth back =
    unique (rising xs) (rising ys) (rising-rises xs) (rising-rises ys)
    (λ z m. in-rising ys z (forth z (rising-in xs z m))) (λ z m. in-rising xs z (back z (rising-in ys z m)))

-- Lists of cells without repetition: with the same members they are each other in another order.
use Rattle.std.proofs.Common.{◌≡◌, refl, ℕ, inl, inr, ap, sym, ◌∙◌, List, [], ◌∷◌, ◌++◌, map}
use Rattle.cg_moves.specs.Reordered.{IsReordered}
use Rattle.cg_moves.specs.Rules.{In}
use Rattle.cg_form.proofs.Firsts.{in-append, in-append_left, in-append_right}
use Rattle.cg_moves.proofs.Members.{carry, in-map, in_equal}
use Rattle.cg_pieces.specs.Cells.{CellGame, Distinct}
use Rattle.std.proofs.lemmas.List.{map-append}
use Rattle.cg_moves.proofs.Middles.{in-middle, in_middle, middle-in}

module _ (g : CellGame) where
  pub distinct-middle : (us vs : List ℕ) (k : ℕ) → Distinct g (us ++ (k ∷ vs)) → (¬ In k (us ++ vs)) × Distinct g (us ++ vs)
  distinct-middle [] vs k d = d
  distinct-middle (u ∷ us) vs k d =
      let h = distinct-middle us vs k d.1 in (
        λ m. elim m [
          | inl e ↦ (d.0 (rw (← e) (in-append_right k us (k ∷ vs) (inl refl))))
          | inr i ↦ h.0 i
        ],
        (λ m. d.0 (in_middle u k us vs m), h.1),
      )

  pub distinct-append : (us vs : List ℕ) → Distinct g us → Distinct g vs → ((k : ℕ) → In k us → In k vs → ⊥) → Distinct g (us ++ vs)
  distinct-append [] vs d e apart = e
  distinct-append (u ∷ us) vs d e apart = (
    λ m. elim (in-append u us vs m) [ inl i ↦ d.0 i | inr i ↦ apart u (inl refl) i ],
    distinct-append us vs d.1 e (λ k i j. apart k (inr i) j),
  )

  pub distinct-left : (us vs : List ℕ) → Distinct g (us ++ vs) → Distinct g us
  distinct-left [] vs d = tt
  distinct-left (u ∷ us) vs d = (λ m. d.0 (in-append_left u us vs m), distinct-left us vs d.1)

  pub distinct-right : (us vs : List ℕ) → Distinct g (us ++ vs) → Distinct g vs
  distinct-right [] vs d = d
  distinct-right (u ∷ us) vs d = distinct-right us vs d.1

  pub distinct-apart : (us vs : List ℕ) → Distinct g (us ++ vs) → (k : ℕ) → In k us → In k vs → ⊥
  distinct-apart [] vs d k i j = i
  distinct-apart (u ∷ us) vs d k (inl e) j =
      d.0 (in-append_right u us vs (rw (← e) j))
  distinct-apart (u ∷ us) vs d k (inr i) j = distinct-apart us vs d.1 k i j

  pub distinct-map : (f : ℕ → ℕ) (ks : List ℕ) → Distinct g ks → ((k l : ℕ) → In k ks → In l ks → f k ≡ f l → k ≡ l) → Distinct g (map f ks)
  distinct-map f [] d h = tt
  distinct-map f (k ∷ ks) d h = (
    λ m. let (l, i, e) = in-map f (f k) ks m in
        (d.0 (rw (h k l (inl refl) (inr i) e) i)),
    distinct-map f ks d.1 (λ a b i j. h a b (inr i) (inr j)),
  )

  pub same-members : (xs ys : List ℕ) → Distinct g xs → Distinct g ys → ((k : ℕ) → In k xs → In k ys)
      → ((k : ℕ) → In k ys → In k xs) → IsReordered xs ys
  same-members [] [] d e forth back = refl
  same-members [] (y ∷ ys) d e forth back = absurd (back y (inl refl))
  same-members (x ∷ xs) ys d e forth back =
      let w = in-middle x ys (forth x (inl refl)) in
      let there = distinct-middle w.before w.behind x (rw (← w.cut) e) in (
        w.before,
        w.behind,
        w.cut,
        same-members xs (w.before ++ w.behind) d.1 there.1
            (λ k i. elim (middle-in k x w.before w.behind (carry k ys _ w.cut (forth k (inr i)))) [
              | inl f ↦ absurd (d.0 (in_equal x k xs (sym f) i))
              | inr j ↦ j
            ])
            (λ k i. elim (back k (carry k _ ys (sym w.cut) (in_middle k x w.before w.behind i))) [
              | inl f ↦ absurd (there.0 (in_equal x k (w.before ++ w.behind) (sym f) i))
              | inr j ↦ j
            ]),
      )

pub reordered-map : {X Y : Type 0} (f : X → Y) (xs ys : List X) → IsReordered xs ys → IsReordered (map f xs) (map f ys)
reordered-map {X} {Y} f [] ys e = ap (map f) e
reordered-map {X} {Y} f (x ∷ xs) ys (us, vs, e, r) = (
  map f us,
  map f vs,
  ap (map f) e ∙ map-append f us (x ∷ vs),
  rw (← (map-append f us vs)) (reordered-map f xs (us ++ vs) r),
)

-- n.^* is n.^ and *, and the same of downs.
use Rattle.std.proofs.Common.{◌≡◌, refl, ap, sym, ◌∙◌, subst, ℕ, zero, suc, inl, inr, ◌⊎◌, [], ◌∷◌, Bool, true, false, not}
use Rattle.cg_form.specs.Game.{Among, Game}
use Rattle.cg_form.specs.Order.{Equal}
use Rattle.cg_form.specs.Side.{AtMost, far, near}
use Rattle.cg_form.specs.Sum.{sum}
use Rattle.cg_form.proofs.Among.{carry}
use Rattle.cg_form.proofs.Preorder.{equal_trans, equal_back}
use Rattle.cg_form.proofs.Sides.{equal_side, not_far, not_near, side_equal, side_fold, side_trans, side_unfold}
use Rattle.cg_names.specs.Named.{star_form, ups_of, zero_form}
use Rattle.cg_names.proofs.Reducing.{far-mirrored, near-mirrored, near-zero}
use Rattle.cg_form.proofs.EqualGames.{equal_assoc}
use Rattle.cg_names.proofs.UpForms.{star_far_is, star_near}
use Rattle.cg_names.proofs.SumWords.{far_first, far_sum, near_first, near_second, near_sum, two_stars}
use Rattle.cg_nimbers.proofs.IntegerMultiples.{sum_first, sum_second, sum_zero, zero_sum}

only_one : (a b : Game) → Among a (b ∷ []) → a ≡ b
only_one a b (inl e) = e
only_one a b (inr m) = absurd m

zero_near_star : (s : Bool) → Among zero_form (near s star_form)
zero_near_star s = carry zero_form (zero_form ∷ []) (near s star_form) (sym (star_near s)) (inl refl)

zero_far_star : (s : Bool) → Among zero_form (far s star_form)
zero_far_star s = carry zero_form (zero_form ∷ []) (far s star_form) (sym (star_far_is s)) (inl refl)

module _ (down : Bool) where
  -- the side that the ups favour
  s : Bool
  s = not down

  up : ℕ → Game
  up n = ups_of down false n

  starred : ℕ → Game
  starred n = ups_of down true n

  no_up : up zero ≡ zero_form
  unfolding up ups_of
  no_up = refl

  star_is : starred zero ≡ star_form
  unfolding starred ups_of
  star_is = refl

  near_up : (n : ℕ) → near s (up (suc n)) ≡ zero_form ∷ []
  unfolding s up ups_of
  near_up zero = near-mirrored down (zero_form ∷ []) (star_form ∷ [])
  near_up (suc n) = near-mirrored down (zero_form ∷ []) (ups_of down true (suc n) ∷ [])

  far_up : (n : ℕ) → far s (up (suc n)) ≡ starred n ∷ []
  unfolding s up starred ups_of
  far_up zero = far-mirrored down (zero_form ∷ []) (star_form ∷ [])
  far_up (suc n) = far-mirrored down (zero_form ∷ []) (ups_of down true (suc n) ∷ [])

  far_starred : (n : ℕ) → far s (starred (suc n)) ≡ up n ∷ []
  unfolding s up starred ups_of
  far_starred zero = far-mirrored down (zero_form ∷ (star_form ∷ [])) (zero_form ∷ [])
  far_starred (suc n) = far-mirrored down (zero_form ∷ []) (ups_of down false (suc n) ∷ [])

  -- the own options are 0, and * where it is ^*
  near_starred : (n : ℕ) (a : Game) → Among a (near s (starred n)) → (a ≡ zero_form) ⊎ ((n ≡ suc zero) × (a ≡ star_form))
  unfolding s starred ups_of
  near_starred zero a m = inl (only_one a zero_form (carry a (near s star_form) (zero_form ∷ []) (star_near s) m))
  near_starred (suc zero) a m =
      elim (carry a _ (zero_form ∷ (star_form ∷ [])) (near-mirrored down (zero_form ∷ (star_form ∷ [])) (zero_form ∷ [])) m) [
        | inl e ↦ inl e
        | inr (inl e) ↦ inr (refl, e)
        | inr (inr k) ↦ absurd k
      ]
  near_starred (suc (suc n)) a m =
      inl (only_one a zero_form (carry a _ (zero_form ∷ [])
      (near-mirrored down (zero_form ∷ []) (ups_of down false (suc n) ∷ [])) m))

  zero_near_up : (n : ℕ) → Among zero_form (near s (up (suc n)))
  zero_near_up n = carry zero_form (zero_form ∷ []) (near s (up (suc n))) (sym (near_up n)) (inl refl)

  starred_far_up : (n : ℕ) → Among (starred n) (far s (up (suc n)))
  starred_far_up n = carry (starred n) (starred n ∷ []) (far s (up (suc n))) (sym (far_up n)) (inl refl)

  up_far_starred : (n : ℕ) → Among (up n) (far s (starred (suc n)))
  up_far_starred n = carry (up n) (up n ∷ []) (far s (starred (suc n))) (sym (far_starred n)) (inl refl)

  zero_near_starred : (n : ℕ) → Among zero_form (near s (starred n))
  unfolding s starred ups_of
  zero_near_starred zero = zero_near_star (not down)
  zero_near_starred (suc zero) = carry zero_form (zero_form ∷ (star_form ∷ [])) _
      (sym (near-mirrored down (zero_form ∷ (star_form ∷ [])) (zero_form ∷ []))) (inl refl)
  zero_near_starred (suc (suc n)) = carry zero_form (zero_form ∷ []) _
      (sym (near-mirrored down (zero_form ∷ []) (ups_of down false (suc n) ∷ []))) (inl refl)

  star_near_starred : Among star_form (near s (starred (suc zero)))
  unfolding s starred ups_of
  star_near_starred = carry star_form (zero_form ∷ (star_form ∷ [])) _
      (sym (near-mirrored down (zero_form ∷ (star_form ∷ [])) (zero_form ∷ []))) (inr (inl refl))

  -- ---- the ups rise

  at : (P : Game → Type 0) (a b : Game) → a ≡ b → P a → P b
  at P a b e p = subst P e p

  -- 0 is at most a game with no own way back
  zero_at_most : (g b : Game) → far s g ≡ b ∷ [] → Among zero_form (near s b) → AtMost s zero_form g
  zero_at_most g b e z = side_fold s zero_form g (record {
    on_near = λ a m k. near-zero s a m;
    on_far = λ c m k. not_near s b zero_form z (at (λ y. AtMost s y zero_form) c b (only_one c b (carry c (far s g) (b ∷ []) e m)) k);
  })

  zero_up : (n : ℕ) → AtMost s zero_form (up (suc n))
  zero_up n = zero_at_most (up (suc n)) (starred n) (far_up n) (zero_near_starred n)

  zero_starred : (n : ℕ) → AtMost s zero_form (starred (suc (suc n)))
  zero_starred n = zero_at_most (starred (suc (suc n))) (up (suc n)) (far_starred (suc n)) (zero_near_up n)

  -- ^* and more are not at most *
  not_star : (n : ℕ) → ¬ AtMost s (starred (suc n)) star_form
  not_star zero k = not_near s (starred (suc zero)) star_form star_near_starred k
  not_star (suc n) k = (side_unfold s (starred (suc (suc n))) star_form k).on_far zero_form (zero_far_star s) (zero_starred n)

  abbrev Rising : ℕ → Type 0
  Rising n = AtMost s (up n) (up (suc n)) × AtMost s (starred n) (starred (suc n))

  -- the same of the number before
  abbrev Earlier : ℕ → Type 0
  Earlier zero = Unit {0}
  Earlier (suc n) = Rising n

  own_up : (n : ℕ) (a : Game) → Among a (near s (up n)) → ¬ AtMost s (up (suc n)) a
  own_up zero a m k = near-zero s a (at (λ y. Among a (near s y)) (up zero) zero_form no_up m)
  own_up (suc n) a m k = not_near s (up (suc (suc n))) zero_form (zero_near_up (suc n))
      (at (λ y. AtMost s (up (suc (suc n))) y) a zero_form (only_one a zero_form
      (carry a (near s (up (suc n))) (zero_form ∷ []) (near_up n) m)) k)

  others_up : (n : ℕ) → Earlier n → ¬ AtMost s (starred n) (up n)
  others_up zero r k = not_near s (starred zero) zero_form (zero_near_starred zero)
      (at (λ y. AtMost s (starred zero) y) (up zero) zero_form no_up k)
  others_up (suc n) r k = (side_unfold s (starred (suc n)) (up (suc n)) k).on_far (starred n) (starred_far_up n) r.1

  others_starred : (n : ℕ) → Earlier n → ¬ AtMost s (up n) (starred n)
  others_starred zero r k = not_far s (starred zero) zero_form
      (at (λ y. Among zero_form (far s y)) star_form (starred zero) (sym star_is) (zero_far_star s))
      (at (λ y. AtMost s y (starred zero)) (up zero) zero_form no_up k)
  others_starred (suc n) r k = (side_unfold s (up (suc n)) (starred (suc n)) k).on_far (up n) (up_far_starred n) r.0

  step_up : (n : ℕ) → Earlier n → AtMost s (up n) (up (suc n))
  step_up n r = side_fold s (up n) (up (suc n)) (record {
    on_near = own_up n;
    on_far = λ b m k. others_up n r (at (λ y. AtMost s y (up n)) b (starred n) (only_one b (starred n)
        (carry b (far s (up (suc n))) (starred n ∷ []) (far_up n) m)) k);
  })

  step_starred : (n : ℕ) → Earlier n → AtMost s (starred n) (starred (suc n))
  step_starred n r = side_fold s (starred n) (starred (suc n)) (record {
    on_near = λ a m k. elim (near_starred n a m) [
      | inl e ↦ not_near s (starred (suc n)) zero_form (zero_near_starred (suc n))
          (at (λ y. AtMost s (starred (suc n)) y) a zero_form e k)
      | inr (o, e) ↦ not_star n (at (λ y. AtMost s (starred (suc n)) y) a star_form e k)
    ];
    on_far = λ b m k. others_starred n r (at (λ y. AtMost s y (starred n)) b (up n) (only_one b (up n)
        (carry b (far s (starred (suc n))) (up n ∷ []) (far_starred n) m)) k);
  })

  rising : (n : ℕ) → Rising n
  rising zero = (step_up zero tt, step_starred zero tt)
  rising (suc n) = (step_up (suc n) (rising n), step_starred (suc n) (rising n))

  rise_up : (n : ℕ) → AtMost s (up n) (up (suc n))
  rise_up n = (rising n).0

  rise_starred : (n : ℕ) → AtMost s (starred n) (starred (suc n))
  rise_starred n = (rising n).1

  -- ---- with * added

  -- with * added once more it is gone
  back : (n : ℕ) → Equal (sum (up n) star_form) (starred n) → Equal (sum (starred n) star_form) (up n)
  back n e =
      let twice : Game = sum (sum (up n) star_form) star_form in
      let first : Equal (sum (starred n) star_form) twice = sum_first (starred n) (sum (up n) star_form) star_form
      (equal_back (sum (up n) star_form) (starred n) e) in
      let grouped : Equal twice (sum (up n) (sum star_form star_form)) = equal_assoc (up n) star_form star_form in
      let gone : Equal (sum (up n) (sum star_form star_form)) (sum (up n) zero_form) =
      sum_second (sum star_form star_form) zero_form (up n) two_stars in
      equal_trans (sum (starred n) star_form) twice (up n) first
      (equal_trans twice (sum (up n) (sum star_form star_form)) (up n) grouped
      (equal_trans (sum (up n) (sum star_form star_form)) (sum (up n) zero_form) (up n) gone (sum_zero (up n))))

  plus_star_low : (n : ℕ) → Equal (sum (starred n) star_form) (up n)
      → AtMost s (sum (up (suc n)) star_form) (starred (suc n))
  plus_star_low n e =
      let G : Game = sum (up (suc n)) star_form in
      let H : Game = starred (suc n) in
      side_fold s G H (record {
        on_near = λ a m k. elim (near_sum s (up (suc n)) star_form a m) [
          | inl (c, w, f) ↦
              let z : c ≡ zero_form = only_one c zero_form (carry c (near s (up (suc n))) (zero_form ∷ []) (near_up n) w) in
              let t : a ≡ sum zero_form star_form = f ∙ ap (λ y. sum y star_form) z in
              not_star n (side_trans s H (sum zero_form star_form) star_form (at (λ y. AtMost s H y) a _ t k)
              (side_equal s (sum zero_form star_form) star_form (zero_sum star_form)))
          | inr (c, w, f) ↦
              let z : c ≡ zero_form = only_one c zero_form (carry c (near s star_form) (zero_form ∷ []) (star_near s) w) in
              let t : a ≡ sum (up (suc n)) zero_form = f ∙ ap (λ y. sum (up (suc n)) y) z in
              (side_unfold s H (up (suc n)) (side_trans s H (sum (up (suc n)) zero_form) (up (suc n))
              (at (λ y. AtMost s H y) a _ t k)
              (side_equal s (sum (up (suc n)) zero_form) (up (suc n)) (sum_zero (up (suc n)))))).on_far (starred n)
              (starred_far_up n) (rise_starred n)
        ];
        on_far = λ b m k.
            let z : b ≡ up n = only_one b (up n) (carry b (far s H) (up n ∷ []) (far_starred n) m) in
            not_far s G (sum (starred n) star_form) (far_first s (up (suc n)) star_form (starred n) (starred_far_up n))
            (side_trans s (sum (starred n) star_form) (up n) G (side_equal s (sum (starred n) star_form) (up n) e)
            (at (λ y. AtMost s y G) b (up n) z k));
      })

  low_plus_star : (n : ℕ) → Equal (sum (starred n) star_form) (up n)
      → AtMost s (starred (suc n)) (sum (up (suc n)) star_form)
  low_plus_star n e =
      let G : Game = sum (up (suc n)) star_form in
      let H : Game = starred (suc n) in
      side_fold s H G (record {
        on_near = λ a m k. elim (near_starred (suc n) a m) [
          | inl z ↦
              not_near s G (sum (up (suc n)) zero_form) (near_second s (up (suc n)) star_form zero_form (zero_near_star s))
              (side_trans s G zero_form (sum (up (suc n)) zero_form) (at (λ y. AtMost s G y) a zero_form z k)
              (side_trans s zero_form (up (suc n)) (sum (up (suc n)) zero_form) (zero_up n)
              (side_equal s (up (suc n)) (sum (up (suc n)) zero_form)
              (equal_back (sum (up (suc n)) zero_form) (up (suc n)) (sum_zero (up (suc n)))))))
          | inr (o, z) ↦
              not_near s G (sum zero_form star_form) (near_first s (up (suc n)) star_form zero_form (zero_near_up n))
              (side_trans s G star_form (sum zero_form star_form) (at (λ y. AtMost s G y) a star_form z k)
              (side_equal s star_form (sum zero_form star_form)
              (equal_back (sum zero_form star_form) star_form (zero_sum star_form))))
        ];
        on_far = λ b m k. elim (far_sum s (up (suc n)) star_form b m) [
          | inl (c, w, f) ↦
              let z : c ≡ starred n = only_one c (starred n) (carry c (far s (up (suc n))) (starred n ∷ []) (far_up n) w) in
              let t : b ≡ sum (starred n) star_form = f ∙ ap (λ y. sum y star_form) z in
              not_far s H (up n) (up_far_starred n) (side_trans s (up n) (sum (starred n) star_form) H
              (side_equal s (up n) (sum (starred n) star_form) (equal_back (sum (starred n) star_form) (up n) e))
              (at (λ y. AtMost s y H) b _ t k))
          | inr (c, w, f) ↦
              let z : c ≡ zero_form = only_one c zero_form (carry c (far s star_form) (zero_form ∷ []) (star_far_is s) w) in
              let t : b ≡ sum (up (suc n)) zero_form = f ∙ ap (λ y. sum (up (suc n)) y) z in
              (side_unfold s (up (suc n)) H (side_trans s (up (suc n)) (sum (up (suc n)) zero_form) H
              (side_equal s (up (suc n)) (sum (up (suc n)) zero_form)
              (equal_back (sum (up (suc n)) zero_form) (up (suc n)) (sum_zero (up (suc n)))))
              (at (λ y. AtMost s y H) b _ t k))).on_far (up n) (up_far_starred n) (rise_up n)
        ];
      })

  plus_star : (n : ℕ) → Equal (sum (up n) star_form) (starred n)
  plus_star zero =
      rw no_up (rw star_is (zero_sum star_form))
  plus_star (suc n) =
      let e = back n (plus_star n) in
      equal_side s (sum (up (suc n)) star_form) (starred (suc n)) (plus_star_low n e) (low_plus_star n e)

-- n.^* is n.^ + *, and n.v* is n.v + *
pub ups-plus_star : (down : Bool) (n : ℕ) → Equal (sum (ups_of down false n) star_form) (ups_of down true n)
unfolding up starred
ups-plus_star down n = plus_star down n

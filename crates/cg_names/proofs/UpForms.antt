-- Ups and downs are canonical.
use Rattle.std.proofs.Common.{◌≡◌, refl, ◌∙◌, ℕ, zero, suc, ◌⊎◌, inl, inr, sym, subst, List, [], ◌∷◌, Bool, true, false, not}
use Rattle.cg_dyadic.specs.Number.{Number}
use Rattle.cg_dyadic.proofs.Values.{number_le-refl}
use Rattle.cg_form.specs.Canonical.{Canonical}
use Rattle.cg_form.specs.Game.{Among, Game, number}
use Rattle.cg_form.specs.Side.{AtMost, far, near}
use Rattle.cg_form.specs.Structure.{Rises}
use Rattle.cg_form.proofs.Among.{carry}
use Rattle.cg_form.proofs.Sides.{not_far, not_near, side_fold, side_turned, side_unfold}
use Rattle.cg_names.specs.Named.{mirrored_if, star_form, ups_of, zero_form, zero_number}
use Rattle.cg_nimbers.proofs.Infinitesimals.{Beyond, Slight, beyond_far, slight-no_number, slight-number}
use Rattle.cg_names.proofs.Infinitesimals.{beyond_zero, slight-from}
use Rattle.cg_names.proofs.Reducing.{canonical_mirrored, far-mirrored, far-zero, near-mirrored, near-zero, one_reduced, other-mirrored, zero_reduced}

zero_slight : (s : Bool) → Slight s zero_form
zero_slight true = slight-number true zero_number (number_le-refl zero_number)
zero_slight false = slight-number false zero_number (number_le-refl zero_number)

-- what all ups but 0 have in common, as the side of the ups sees them
record UpLike (s : Bool) (g : Game) : Type 0 where
  zero_near : Among zero_form (near s g)
  zero_or_star : (a : Game) → Among a (near s g) → (a ≡ zero_form) ⊎ (a ≡ star_form)
  slight : Slight s g
  canonical : Canonical g

pub star_near : (s : Bool) → near s star_form ≡ zero_form ∷ []
star_near true = refl
star_near false = refl

pub star_far_is : (s : Bool) → far s star_form ≡ zero_form ∷ []
star_far_is true = refl
star_far_is false = refl

star_far : (s : Bool) → Among zero_form (far s star_form)
star_far s = carry zero_form (zero_form ∷ []) (far s star_form) (sym (star_far_is s)) (inl refl)

pub star_canonical : Canonical star_form
star_canonical = canonical_mirrored false (zero_form ∷ []) (zero_form ∷ []) (zero_reduced true star_form refl)
    (zero_reduced false star_form refl) (slight-no_number true star_form zero_form (inl refl) (inl refl)
    (zero_slight true))
    (λ a m. elim m [ inl e ↦ rw e tt | inr k ↦ absurd k ])
    (λ a m. elim m [ inl e ↦ rw e tt | inr k ↦ absurd k ])

-- no number that is better than 0 is at most 0 or *
beyond_both : (s : Bool) (a : Game) → (a ≡ zero_form) ⊎ (a ≡ star_form) → (x : Number) → Beyond s x → ¬ AtMost s
    (number x) a
beyond_both s a (inl e) x p l = beyond_zero s x p (rw (← e) l)
beyond_both s a (inr e) x p l = beyond_far s x star_form zero_form p (star_far s) (zero_slight s) (rw (← e) l)

star_like : (s : Bool) → UpLike s star_form
star_like s = record {
  zero_near = carry zero_form (zero_form ∷ []) (near s star_form) (sym (star_near s)) (inl refl);
  zero_or_star = λ a m. elim (carry a (near s star_form) (zero_form ∷ []) (star_near s) m)
      [ inl e ↦ inl e | inr k ↦ absurd k ];
  slight = slight-from s star_form zero_form (λ a m. beyond_both s a (elim
      (carry a (near s star_form) (zero_form ∷ []) (star_near s) m) [
        | inl e ↦ inl e
        | inr k ↦ absurd k
      ])) (star_far s) (zero_slight s);
  canonical = star_canonical;
}

-- one list is that of the side, and the other that of the other side
pub far_is_near : (down : Bool) (g : Game) → far down g ≡ near (not down) g
far_is_near true g = refl
far_is_near false g = refl

pub zero_canonical : (a : Game) → Among a (zero_form ∷ []) → Canonical a
zero_canonical a (inl e) = rw e tt
zero_canonical a (inr m) = absurd m

-- {0|u} is at least 0, as the side sees it, where u is not at most 0
zero_under : (s : Bool) (g u : Game) → far s g ≡ u ∷ [] → Among zero_form (near s u) → AtMost s zero_form g
zero_under s g u e z = side_fold s zero_form g (record {
  on_near = λ a m k. near-zero s a m;
  on_far = λ b m k. elim (carry b (far s g) (u ∷ []) e m) [
    | inl p ↦ not_near s u zero_form z (rw (← p) k)
    | inr n ↦ n
  ];
})

-- no option 0 or * of u leads {0|u} back
stays_over : (down : Bool) (g u b : Game) → near (not down) g ≡ zero_form ∷ [] → far (not down) g ≡ u ∷ []
    → Among zero_form (near (not down) u) → (b ≡ zero_form) ⊎ (b ≡ star_form) → ¬ AtMost down b g
stays_over down g u b e f z (inl p) l =
    not_far down g zero_form (rw (far_is_near down g ∙ e) (inl refl)) (rw (← p) l)
stays_over down g u b e f z (inr p) l =
    let under : AtMost (not down) zero_form g = zero_under (not down) g u f z in
    (side_unfold down star_form g (rw (← p) l)).on_near zero_form
    (carry zero_form (zero_form ∷ []) (near down star_form) (sym (star_near down)) (inl refl))
    (sym (side_turned down zero_form g) ∙ under)

-- {0|u}, where u is of the kind
step : (down : Bool) (u : Game) → UpLike (not down) u → UpLike (not down) (mirrored_if down (zero_form ∷ []) (u ∷ []))
step down u i =
    let g : Game = mirrored_if down (zero_form ∷ []) (u ∷ []) in
    let n : near (not down) g ≡ zero_form ∷ [] = near-mirrored down (zero_form ∷ []) (u ∷ []) in
    let f : far (not down) g ≡ u ∷ [] = far-mirrored down (zero_form ∷ []) (u ∷ []) in
    let z : Among zero_form (near (not down) g) = carry zero_form (zero_form ∷ []) (near (not down) g) (sym n)
    (inl refl) in
    let w : Among u (far (not down) g) = carry u (u ∷ []) (far (not down) g) (sym f) (inl refl) in
    let each : (a : Game) → Among a (near (not down) g) → (a ≡ zero_form) ⊎ (a ≡ star_form) =
    λ a m. elim (carry a (near (not down) g) (zero_form ∷ []) n m) [ inl e ↦ inl e | inr k ↦ absurd k ] in
    record {
      zero_near = z;
      zero_or_star = each;
      slight = slight-from (not down) g u (λ a m. beyond_both (not down) a (each a m)) w i.slight;
      canonical = canonical_mirrored down (zero_form ∷ []) (u ∷ []) (zero_reduced (not down) g n)
          (one_reduced down g u (other-mirrored down (zero_form ∷ []) (u ∷ []))
          (λ b m. stays_over down g u b n f i.zero_near (i.zero_or_star b
          (carry b (far down u) (near (not down) u) (far_is_near down u) m))))
          (slight-no_number (not down) g u z w i.slight) zero_canonical
          (λ a m. elim m [
            | inl e ↦ rw e i.canonical
            | inr k ↦
                absurd k
          ]);
    }

-- ---- ^* = {0,*|0}

abbrev both : List Game
both = zero_form ∷ (star_form ∷ [])

in_both : (a : Game) → Among a both → (a ≡ zero_form) ⊎ (a ≡ star_form)
in_both a (inl e) = inl e
in_both a (inr (inl e)) = inr e
in_both a (inr (inr m)) = absurd m

both_apart : (s : Bool) (a b : Game) → (a ≡ zero_form) ⊎ (a ≡ star_form) → (b ≡ zero_form) ⊎ (b ≡ star_form)
    → AtMost s a b → a ≡ b
both_apart s a b (inl e) (inl f) l = e ∙ sym f
both_apart s a b (inl e) (inr f) l =
    let P : Game → Type 0 = λ y. AtMost s y b in let Q : Game → Type 0 = λ y. AtMost s zero_form y in
    absurd (not_far s star_form zero_form (star_far s) (subst Q f (subst P e l)))
both_apart s a b (inr e) (inl f) l =
    let P : Game → Type 0 = λ y. AtMost s y b in let Q : Game → Type 0 = λ y. AtMost s star_form y in
    absurd (not_near s star_form zero_form (star_like s).zero_near (subst Q f (subst P e l)))
both_apart s a b (inr e) (inr f) l = e ∙ sym f

-- the far options of 0 and * lead no game back that has the far option 0
both_stays : (s : Bool) (g a b : Game) → Among zero_form (far s g) → (a ≡ zero_form) ⊎ (a ≡ star_form)
    → Among b (far s a) → ¬ AtMost s b g
both_stays s g a b z (inl e) m l = far-zero s b (rw (← e) m)
both_stays s g a b z (inr e) m l =
    elim (carry b (far s star_form) (zero_form ∷ []) (star_far_is s) (rw (← e) m)) [
      | inl f ↦ not_far s g zero_form z (rw (← f) l)
      | inr k ↦ k
    ]

plus_star : (down : Bool) → UpLike (not down) (mirrored_if down both (zero_form ∷ []))
plus_star down =
    let s : Bool = not down in
    let g : Game = mirrored_if down both (zero_form ∷ []) in
    let n : near s g ≡ both = near-mirrored down both (zero_form ∷ []) in
    let f : far s g ≡ zero_form ∷ [] = far-mirrored down both (zero_form ∷ []) in
    let z : Among zero_form (near s g) = carry zero_form both (near s g) (sym n) (inl refl) in
    let w : Among zero_form (far s g) = carry zero_form (zero_form ∷ []) (far s g) (sym f) (inl refl) in
    let each : (a : Game) → Among a (near s g) → (a ≡ zero_form) ⊎ (a ≡ star_form) =
    λ a m. in_both a (carry a (near s g) both n m) in
    let rises : Rises both = (
      (λ h m. elim m [
        | inl e ↦ rw e refl
        | inr k ↦ absurd k
      ]),
      ((λ h m. absurd m), tt),
    ) in
    record {
      zero_near = z;
      zero_or_star = each;
      slight = slight-from s g zero_form (λ a m. beyond_both s a (each a m)) w (zero_slight s);
      canonical = canonical_mirrored down both (zero_form ∷ []) (record {
        apart = λ a b m k l. both_apart s a b (each a m) (each b k) l;
        stays = λ a b m k l. both_stays s g a b w (each a m) k l;
        rises = rw n rises;
      }) (zero_reduced down g (other-mirrored down both (zero_form ∷ [])))
          (slight-no_number s g zero_form z w (zero_slight s))
          (λ a m. elim (in_both a m) [
            | inl e ↦ rw e tt
            | inr e ↦ rw e star_canonical
          ]) zero_canonical;
    }

-- ---- all of them

ups_like : (down starred : Bool) (n : ℕ) → UpLike (not down) (ups_of down starred (suc n))
unfolding ups_of
ups_like down false zero = step down star_form (star_like (not down))
ups_like down true zero = plus_star down
ups_like down starred (suc n) = step down (ups_of down (not starred) (suc n)) (ups_like down (not starred) n)

pub ups-canonical : (down starred : Bool) (n : ℕ) → Canonical (ups_of down starred n)
unfolding ups_of
ups-canonical down false zero = tt
ups-canonical down true zero = star_canonical
ups-canonical down starred (suc n) = (ups_like down starred n).canonical

-- Where some number fits, the game equals the simplest one; where none fits, a number is compared with the options
-- alone.
use Rattle.std.proofs.Common.{◌≡◌, refl, ℕ, ◌<◌, arith, zero, suc, ◌⊎◌, inl, inr, List, [], ◌∷◌}
use Rattle.cg_dyadic.specs.Number.{AmongNumbers, Number, NumberLe, number_le, number_lefts, number_rights, weight}
use Rattle.cg_dyadic.specs.Simplest.{Simpler}
use Rattle.cg_dyadic.proofs.Simpler.{simpler_above, simpler_below}
use Rattle.cg_dyadic.proofs.Truth.{differ, true-or-not}
use Rattle.cg_dyadic.proofs.Values.{left-le_number, number_le-same, right-le_number}
use Rattle.cg_dyadic.proofs.Weight.{weight-lefts, weight-rights}
use Rattle.cg_form.specs.Game.{Among, Game, lefts, number, rights}
use Rattle.cg_form.specs.Order.{Equal, Le, le}
use Rattle.cg_form.specs.Simple.{FitsIn, NoNumber, SimplestValue}
use Rattle.cg_form.proofs.Among.{among-map}
use Rattle.cg_form.proofs.Numbers.{le-numbers, numbers-le}
use Rattle.cg_form.proofs.Order.{all-or-some, le-fold, le-unfold}
use Rattle.cg_form.proofs.Preorder.{le_trans}

-- x fits, and no option of x does
pub record Simplest (x : Number) (g : Game) : Type 0 where
  pub fits : FitsIn x g
  pub left_misses : (y : Number) → AmongNumbers y (number_lefts x) → ¬ FitsIn y g
  pub right_misses : (y : Number) → AmongNumbers y (number_rights x) → ¬ FitsIn y g

-- an option y of x at which g has to be compared fits where x does
left_fits : (x : Number) (g : Game) (y : Number) → ((b : Game) → Among b (rights g) → ¬ Le b (number x))
    → AmongNumbers y (number_lefts x) → Le g (number y) → FitsIn y g
left_fits x g y below m k = record {
  above = (le-unfold g (number y) k).on_left;
  below = λ b w l. below b w (le_trans b (number y) (number x) l (numbers-le y x (left-le_number x y m)));
}

right_fits : (x : Number) (g : Game) (y : Number) → ((a : Game) → Among a (lefts g) → ¬ Le (number x) a)
    → AmongNumbers y (number_rights x) → Le (number y) g → FitsIn y g
right_fits x g y above m k = record {
  above = λ a w l. above a w (le_trans (number x) (number y) a (numbers-le x y (right-le_number x y m)) l);
  below = (le-unfold (number y) g k).on_right;
}

-- if no Left option of x fits, then x is at most g exactly where no Right option of g is at most x
pub number-le : (x : Number) (g : Game) → ((y : Number) → AmongNumbers y (number_lefts x) → ¬ FitsIn y g)
    → ((b : Game) → Among b (rights g) → ¬ Le b (number x)) → Le (number x) g
number-le x g misses below = le-fold (number x) g (record {
  on_left = λ a m k.
      let (y, e, w) = among-map (number_lefts x) number a m in
      misses y w (left_fits x g y below w (rw e at k));
  on_right = below;
})

pub le-number : (g : Game) (x : Number) → ((y : Number) → AmongNumbers y (number_rights x) → ¬ FitsIn y g)
    → ((a : Game) → Among a (lefts g) → ¬ Le (number x) a) → Le g (number x)
le-number g x misses above = le-fold g (number x) (record {
  on_left = above;
  on_right = λ b m k.
      let (y, e, w) = among-map (number_rights x) number b m in
      misses y w (right_fits x g y above w (rw e at k));
})

-- simplicity
pub simplest-equal : (x : Number) (g : Game) → Simplest x g → Equal (number x) g
simplest-equal x g s = (number-le x g s.left_misses s.fits.below, le-number g x s.right_misses s.fits.above)

pub fits-decide : (x : Number) (g : Game) → FitsIn x g ⊎ (¬ FitsIn x g)
fits-decide x g = elim (all-or-some (λ a. le (number x) a) (lefts g)) [
  | inr (a, m, t) ↦ inr (λ f. f.above a m t)
  | inl p ↦ elim (all-or-some (λ b. le b (number x)) (rights g)) [
    | inr (b, m, t) ↦ inr (λ f. f.below b m t)
    | inl q ↦ inl (record {
      above = λ a m k. differ (le (number x) a) k (p a m);
      below = λ b m k. differ (le b (number x)) k (q b m);
    })
  ]
]

pub some_fits : (g : Game) (xs : List Number)
    → ((y : Number) × AmongNumbers y xs × FitsIn y g) ⊎ ((y : Number) → AmongNumbers y xs → ¬ FitsIn y g)
some_fits g [] = inr (λ y m f. m)
some_fits g (x ∷ xs) = elim (fits-decide x g) [
  | inl f ↦ inl (x, inl refl, f)
  | inr n ↦ elim (some_fits g xs) [
    | inl (y, m, f) ↦ inl (y, inr m, f)
    | inr h ↦ inr (λ y m f. elim m [
      | inl e ↦ n (rw e at f)
      | inr k ↦ h y k f
    ])
  ]
]

pub simplest_within : (n : ℕ) (x : Number) (g : Game) → weight x < n → FitsIn x g → (y : Number) × Simplest y g
simplest_within zero x g w f = absurd (omega arith)
simplest_within (suc n) x g w f = elim (some_fits g (number_lefts x)) [
  | inl (y, m, k) ↦ let s = weight-lefts x y m in simplest_within n y g (omega arith) k
  | inr l ↦ elim (some_fits g (number_rights x)) [
    | inl (y, m, k) ↦ let s = weight-rights x y m in simplest_within n y g (omega arith) k
    | inr r ↦ (x, record { fits = f; left_misses = l; right_misses = r })
  ]
]

-- what lies between two numbers that fit, fits
pub fits-convex : (x y z : Number) (g : Game) → FitsIn x g → FitsIn z g → NumberLe x y → NumberLe y z → FitsIn y g
fits-convex x y z g f h p q = record {
  above = λ a m k. f.above a m (le_trans (number x) (number y) a (numbers-le x y p) k);
  below = λ b m k. h.below b m (le_trans b (number y) (number z) k (numbers-le y z q));
}

pub simplest-simpler : (x y : Number) (g : Game) → Simplest x g → FitsIn y g → (x ≡ y) ⊎ Simpler x y
simplest-simpler x y g s f = elim (true-or-not (number_le x y)) [
  | inl p ↦ elim (true-or-not (number_le y x)) [
    | inl q ↦ inl (number_le-same x y p q)
    | inr q ↦ inr (simpler_above x y q (λ z m k. s.right_misses z m
        (fits-convex x z y g s.fits f (right-le_number x z m) k)))
  ]
  | inr p ↦ inr (simpler_below x y p (λ z m k. s.left_misses z m
      (fits-convex y z x g f s.fits k (left-le_number x z m))))
]

pub simplicity : (x : Number) (g : Game) → FitsIn x g → SimplestValue g
simplicity x g f =
    let (y, s) = simplest_within (suc (weight x)) x g (omega arith) f in
    record { value = y; fits = s.fits; simplest = λ z k. simplest-simpler y z g s k; equal = simplest-equal y g s }

-- a game that equals a number is one in which that number fits, and the other way round
pub equal-fits : (x : Number) (g : Game) → Equal (number x) g → FitsIn x g
equal-fits x g e = record {
  above = λ a m k. (le-unfold g (number x) e.1).on_left a m k;
  below = λ b m k. (le-unfold (number x) g e.0).on_right b m k;
}

pub none_fits : (g : Game) → NoNumber g → (x : Number) → ¬ FitsIn x g
none_fits g n x f = let s = simplicity x g f in n s.value s.equal

-- a game equals one number at most
pub one_number : (x y : Number) (g : Game) → Equal (number x) g → Equal (number y) g → x ≡ y
one_number x y g e f = number_le-same x y (le-numbers x y (le_trans (number x) g (number y) e.0 f.1))
    (le-numbers y x (le_trans (number y) g (number x) f.0 e.1))

-- Every game lies between two integers, so a game with no Left, or no Right, options equals an integer.
use Rattle.std.proofs.Common.{◌≡◌, refl, ℕ, ◌<◌, arith, zero, suc, ◌⊎◌, inl, inr, ap, ◌∙◌, []}
use Rattle.std.proofs.Common.{ℤ, pos, negsuc, ◌+ℤ◌}
use Rattle.std.proofs.lemmas.Int.{ints}
use Rattle.cg_dyadic.specs.Number.{Number, between, exp_of, whole}
use Rattle.cg_dyadic.specs.Simplest.{Simpler}
use Rattle.cg_dyadic.proofs.Scale.{le-units}
use Rattle.cg_form.specs.Game.{Among, Game, lefts, number, rights}
use Rattle.cg_form.specs.Order.{Equal, Le}
use Rattle.cg_form.specs.Simple.{FitsIn, NoNumber}
use Rattle.cg_form.specs.Size.{size}
use Rattle.cg_form.proofs.Numbers.{le-numbers}
use Rattle.cg_form.proofs.Order.{le-fold}
use Rattle.cg_form.proofs.Preorder.{le_trans}
use Rattle.cg_form.proofs.Simplicity.{none_fits, simplicity}
use Rattle.cg_form.proofs.Size.{size-lefts, size-rights}

-- every game lies between two integers
pub le-size : (n : ℕ) (g : Game) → size g < n → Le g (number (whole (pos (size g))))
le-size zero g h = absurd (omega arith)
le-size (suc n) g h = le-fold g (number (whole (pos (size g)))) (record {
  on_left = λ a m k.
      let s = size-lefts g a m in
      let l = le-units 0 (whole (pos (size g))) (whole (pos (size a))) (omega arith) (omega arith)
      (le-numbers (whole (pos (size g))) (whole (pos (size a)))
      (le_trans (number (whole (pos (size g)))) a (number (whole (pos (size a)))) k
      (le-size n a (omega arith)))) in
      omega (arith, ints);
  on_right = λ b m k. m;
})

-- every game is at least some integer
abbrev pub minus : ℕ → ℤ
minus zero = pos zero
minus (suc n) = negsuc n

pub minus_is : (n : ℕ) → minus n +ℤ pos n ≡ pos 0
minus_is zero = refl
minus_is (suc n) = omega (arith, ints)

pub size-le : (n : ℕ) (g : Game) → size g < n → Le (number (whole (minus (size g)))) g
size-le zero g h = absurd (omega arith)
size-le (suc n) g h = le-fold (number (whole (minus (size g)))) g (record {
  on_left = λ a m k. no_left (size g) a m;
  on_right = λ b m k.
      let s = size-rights g b m in
      let l = le-units 0 (whole (minus (size b))) (whole (minus (size g))) (omega arith) (omega arith)
      (le-numbers (whole (minus (size b))) (whole (minus (size g)))
      (le_trans (number (whole (minus (size b)))) b (number (whole (minus (size g))))
      (size-le n b (omega arith)) k)) in
      let u = minus_is (size b) in let v = minus_is (size g) in
      omega (arith, ints);
})
  where
    no_left : (k : ℕ) (a : Game) → Among a (lefts (number (whole (minus k)))) → ⊥
    no_left zero a m = m
    no_left (suc k) a m = m

pub no_lefts-whole : (g : Game) → lefts g ≡ [] → (n : ℤ) × FitsIn (whole n) g
no_lefts-whole g e = (
  minus (size g),
  record {
    above = λ a m k. rw e at m;
    below = λ b m k.
        let s = size-rights g b m in
        let l = le-units 0 (whole (minus (size b))) (whole (minus (size g))) (omega arith) (omega arith)
        (le-numbers (whole (minus (size b))) (whole (minus (size g)))
        (le_trans (number (whole (minus (size b)))) b (number (whole (minus (size g))))
        (size-le (suc (size b)) b (omega arith)) k)) in
        let u = minus_is (size b) in let v = minus_is (size g) in
        omega (arith, ints);
  },
)

pub no_rights-whole : (g : Game) → rights g ≡ [] → (n : ℤ) × FitsIn (whole n) g
no_rights-whole g e = (
  pos (size g),
  record {
    below = λ a m k. rw e at m;
    above = λ a m k.
        let s = size-lefts g a m in
        let l = le-units 0 (whole (pos (size g))) (whole (pos (size a))) (omega arith) (omega arith)
        (le-numbers (whole (pos (size g))) (whole (pos (size a)))
        (le_trans (number (whole (pos (size g)))) a (number (whole (pos (size a)))) k
        (le-size (suc (size a)) a (omega arith)))) in
        omega (arith, ints);
  },
)

integer : (x : Number) → exp_of x ≡ 0 → (n : ℤ) × (x ≡ whole n)
integer (whole n) e = (n, refl)
integer (between n k) e = absurd (omega arith)

simpler_whole : (x y : Number) → exp_of y ≡ 0 → (x ≡ y) ⊎ Simpler x y → exp_of x ≡ 0
simpler_whole x y e (inl h) = ap exp_of h ∙ e
simpler_whole x y e (inr (inl h)) = absurd (omega arith)
simpler_whole x y e (inr (inr h)) = h.0

fits_integer : (x : Number) (g : Game) → exp_of x ≡ 0 → FitsIn x g → (n : ℤ) × Equal (number (whole n)) g
fits_integer x g e f =
    let s = simplicity x g f in
    let (n, h) = integer s.value (simpler_whole s.value x e (s.simplest x f)) in
    (n, rw h at s.equal)

pub no_lefts-integer : (g : Game) → lefts g ≡ [] → (n : ℤ) × Equal (number (whole n)) g
no_lefts-integer g e = let w = no_lefts-whole g e in fits_integer (whole w.0) g refl w.1

pub no_rights-integer : (g : Game) → rights g ≡ [] → (n : ℤ) × Equal (number (whole n)) g
no_rights-integer g e = let w = no_rights-whole g e in fits_integer (whole w.0) g refl w.1

-- a game that equals no number has options on both sides
pub some_lefts : (g : Game) → NoNumber g → ¬ (lefts g ≡ [])
some_lefts g n e = let w = no_lefts-whole g e in none_fits g n (whole w.0) w.1

pub some_rights : (g : Game) → NoNumber g → ¬ (rights g ≡ [])
some_rights g n e = let w = no_rights-whole g e in none_fits g n (whole w.0) w.1

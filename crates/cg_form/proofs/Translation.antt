-- Number translation: x + G = {x + A | x + B} where G equals no number.
use Rattle.std.proofs.Common.{◌≡◌, ℕ, ◌+◌, ◌-◌, unsigned_abs, ◌≤◌, arith, zero, suc, ◌⊎◌, inl, inr, ap, ◌∙◌, ℤ, pos, negsuc, ◌+ℤ◌, ◌<ℤ◌}
use Rattle.std.proofs.lemmas.Int.{ints}
use Rattle.cg_dyadic.specs.Number.{Number, exp_of, number_lefts, number_rights, ratio, whole}
use Rattle.cg_dyadic.specs.Units.{units}
use Rattle.cg_dyadic.proofs.Integers.{abs_tells}
use Rattle.cg_dyadic.proofs.Scale.{doubled-le, doubled-lt, exp-ratio, le-units, units-ratio}
use Rattle.cg_dyadic.proofs.SumGap.{exp-lefts, exp-rights, units-lefts, units-rights}
use Rattle.cg_dyadic.proofs.Truth.{differ}
use Rattle.cg_form.specs.Game.{Among, Game, lefts, number, rights}
use Rattle.cg_form.specs.Order.{Equal, Le, le}
use Rattle.cg_form.specs.Simple.{NoNumber}
use Rattle.cg_form.specs.Size.{size}
use Rattle.cg_form.specs.Sum.{sum}
use Rattle.cg_form.specs.Translate.{translated}
use Rattle.cg_form.proofs.Among.{among-map, among_map, among_mapped, lefts-node, rights-node}
use Rattle.cg_form.proofs.Integers.{le-size, minus, minus_is, size-le}
use Rattle.cg_form.proofs.Numbers.{le-numbers}
use Rattle.cg_form.proofs.Order.{all-or-some}
use Rattle.cg_form.proofs.Preorder.{at_left, at_right, le-cofinal, le_refl, le_trans}
use Rattle.cg_form.proofs.Simplicity.{le-number, none_fits, number-le}
use Rattle.cg_form.proofs.Size.{size-lefts, size-rights}
use Rattle.cg_form.proofs.Sum.{sum-left_cases, sum-left_second, sum-right_cases, sum-right_second}
use Rattle.cg_form.proofs.SumLaws.{sum-le_second}
use Rattle.cg_form.proofs.SumNumbers.{sums}

-- ---- near a Left option

pub record NearLeft (s : ℕ) (g : Game) : Type 0 where
  pub at : ℤ
  pub near : Game
  pub option : Among near (lefts g)
  pub below : Le (number (ratio at s)) near
  pub above : Le g (number (ratio (at +ℤ pos 1) s))

some_left : (g : Game) (x : Number)
    → ((a : Game) → Among a (lefts g) → ¬ Le (number x) a) ⊎ ((a : Game) × Among a (lefts g) × Le (number x) a)
some_left g x = elim (all-or-some (λ a. le (number x) a) (lefts g)) [
  | inl p ↦ inl (λ a m k. differ (le (number x) a) k (p a m))
  | inr w ↦ inr w
]

-- up from j, at which a Left option is at least j, in steps of 1
walk_left : (n s : ℕ) (j : ℤ) (g : Game) → NoNumber g → (a : Game) → Among a (lefts g) → Le (number (ratio j s)) a
    → units s (whole (pos (size g))) <ℤ (j +ℤ pos n) → NearLeft s g
walk_left zero s j g never a m k u =
    let t = size-lefts g a m in
    let e = exp-ratio j s in
    let l = le-units s (ratio j s) (whole (pos (size a))) (omega arith) (omega arith)
    (le-numbers (ratio j s) (whole (pos (size a)))
    (le_trans (number (ratio j s)) a (number (whole (pos (size a)))) k (le-size (suc (size a)) a (omega arith)))) in
    let v = units-ratio j s in
    let w = doubled-le (s - 0) (pos (size a)) (pos (size g)) (omega (arith, ints)) in
    absurd (omega (arith, ints))
walk_left (suc n) s j g never a m k u = elim (some_left g (ratio (j +ℤ pos 1) s)) [
  | inr (b, w, l) ↦ walk_left n s (j +ℤ pos 1) g never b w l (omega (arith, ints))
  | inl f ↦ record {
    at = j;
    near = a;
    option = m;
    below = k;
    above = le-number g (ratio (j +ℤ pos 1) s) (λ y w h. none_fits g never y h) f;
  }
]

steps : (m n : ℤ) → m <ℤ (n +ℤ pos (suc (unsigned_abs m + unsigned_abs n)))
steps m n = let a = abs_tells m in let b = abs_tells n in omega (arith, ints)

near_left : (s : ℕ) (g : Game) → NoNumber g → NearLeft s g
near_left s g never =
    let low : ℤ = units s (whole (minus (size g))) in
    elim (some_left g (ratio low s)) [
      | inl f ↦ absurd (none_fits g never (ratio low s) (record {
        above = f;
        below = λ b m k.
            let t = size-rights g b m in
            let e = exp-ratio low s in
            let l = le-units s (whole (minus (size b))) (ratio low s) (omega arith) (omega arith)
            (le-numbers (whole (minus (size b))) (ratio low s)
            (le_trans (number (whole (minus (size b)))) b (number (ratio low s))
            (size-le (suc (size b)) b (omega arith)) k)) in
            let v = units-ratio low s in
            let u = minus_is (size b) in let w = minus_is (size g) in
            let d = doubled-lt (s - 0) (minus (size g)) (minus (size b)) (omega (arith, ints)) in
            omega (arith, ints);
      }))
      | inr (a, m, l) ↦ walk_left
          (suc (unsigned_abs (units s (whole (pos (size g)))) + unsigned_abs low)) s low g never a m l
          (steps (units s (whole (pos (size g)))) low)
    ]

-- ---- near a Right option

pub record NearRight (s : ℕ) (g : Game) : Type 0 where
  pub at : ℤ
  pub near : Game
  pub option : Among near (rights g)
  pub above : Le near (number (ratio (at +ℤ pos 1) s))
  pub below : Le (number (ratio at s)) g

some_right : (g : Game) (x : Number)
    → ((b : Game) → Among b (rights g) → ¬ Le b (number x)) ⊎ ((b : Game) × Among b (rights g) × Le b (number x))
some_right g x = elim (all-or-some (λ b. le b (number x)) (rights g)) [
  | inl p ↦ inl (λ b m k. differ (le b (number x)) k (p b m))
  | inr w ↦ inr w
]

-- down from j + 1, at which a Right option is at most j + 1, in steps of 1
walk_right : (n s : ℕ) (j : ℤ) (g : Game) → NoNumber g → (b : Game) → Among b (rights g)
    → Le b (number (ratio (j +ℤ pos 1) s))
    → (j +ℤ pos 1) <ℤ (units s (whole (minus (size g))) +ℤ pos n) → NearRight s g
walk_right zero s j g never b m k u =
    let t = size-rights g b m in
    let e = exp-ratio (j +ℤ pos 1) s in
    let l = le-units s (whole (minus (size b))) (ratio (j +ℤ pos 1) s) (omega arith) (omega arith)
    (le-numbers (whole (minus (size b))) (ratio (j +ℤ pos 1) s)
    (le_trans (number (whole (minus (size b)))) b (number (ratio (j +ℤ pos 1) s))
    (size-le (suc (size b)) b (omega arith)) k)) in
    let v = units-ratio (j +ℤ pos 1) s in
    let x = minus_is (size b) in let y = minus_is (size g) in
    let w = doubled-le (s - 0) (minus (size g)) (minus (size b)) (omega (arith, ints)) in
    absurd (omega (arith, ints))
walk_right (suc n) s j g never b m k u = elim (some_right g (ratio j s)) [
  | inr (c, w, l) ↦
      let i : ℤ = j +ℤ negsuc 0 in
      let e : j ≡ i +ℤ pos 1 = omega (arith, ints) in
      walk_right n s i g never c w (rw e at l) (omega (arith, ints))
  | inl f ↦ record {
    at = j;
    near = b;
    option = m;
    above = k;
    below = number-le (ratio j s) g (λ y w h. none_fits g never y h) f;
  }
]

near_right : (s : ℕ) (g : Game) → NoNumber g → NearRight s g
near_right s g never =
    let high : ℤ = units s (whole (pos (size g))) in
    elim (some_right g (ratio high s)) [
      | inl f ↦ absurd (none_fits g never (ratio high s) (record {
        below = f;
        above = λ a m k.
            let t = size-lefts g a m in
            let e = exp-ratio high s in
            let l = le-units s (ratio high s) (whole (pos (size a))) (omega arith) (omega arith)
            (le-numbers (ratio high s) (whole (pos (size a)))
            (le_trans (number (ratio high s)) a (number (whole (pos (size a)))) k
            (le-size (suc (size a)) a (omega arith)))) in
            let v = units-ratio high s in
            let d = doubled-lt (s - 0) (pos (size a)) (pos (size g)) (omega (arith, ints)) in
            omega (arith, ints);
      }))
      | inr (b, m, l) ↦
          let i : ℤ = high +ℤ negsuc 0 in
          let e : high ≡ i +ℤ pos 1 = omega (arith, ints) in
          walk_right (suc (unsigned_abs (i +ℤ pos 1) + unsigned_abs (units s (whole (minus (size g)))))) s i g never b m
          (rw e at l) (steps (i +ℤ pos 1) (units s (whole (minus (size g)))))
    ]

-- ---- translation

-- a step down in x costs no more than a step of 1 / 2 ^ s in y
exchange : (s : ℕ) (x z : Number) (j : ℤ) → exp_of x ≤ s → exp_of z ≤ s → units s z <ℤ units s x
    → Le (sum (number z) (number (ratio (j +ℤ pos 1) s))) (sum (number x) (number (ratio j s)))
exchange s x z j p q h =
    let m : ℤ = units s x +ℤ j in
    let a = units-ratio j s in let b = units-ratio (j +ℤ pos 1) s in let c = units-ratio m s in
    let d = exp-ratio j s in let e = exp-ratio (j +ℤ pos 1) s in let f = exp-ratio m s in
    le_trans (sum (number z) (number (ratio (j +ℤ pos 1) s))) (number (ratio m s)) (sum (number x) (number (ratio j s)))
    ((sums s z (ratio (j +ℤ pos 1) s) (ratio m s) q e f).le_to (omega (arith, ints)))
    ((sums s x (ratio j s) (ratio m s) p d f).ge_to (omega (arith, ints)))

pub left_of : (x : Number) (g a : Game) → Among a (lefts g) → Among (sum (number x) a) (lefts (translated x g))
left_of x g a m = rw lefts-node (among_mapped (λ a. sum (number x) a) a (lefts g) m)

pub right_of : (x : Number) (g b : Game) → Among b (rights g) → Among (sum (number x) b) (rights (translated x g))
right_of x g b m = rw rights-node (among_mapped (λ b. sum (number x) b) b (rights g) m)

pub left_cases : (x : Number) (g t : Game) → Among t (lefts (translated x g))
    → (a : Game) × Among a (lefts g) × (t ≡ sum (number x) a)
left_cases x g t m =
    among_map (λ a. sum (number x) a) t (lefts g)
    (rw lefts-node at m)

pub right_cases : (x : Number) (g t : Game) → Among t (rights (translated x g))
    → (a : Game) × Among a (rights g) × (t ≡ sum (number x) a)
right_cases x g t m =
    among_map (λ b. sum (number x) b) t (rights g)
    (rw rights-node at m)

pub translation : (x : Number) (g : Game) → NoNumber g → Equal (sum (number x) g) (translated x g)
translation x g never = (
  le-cofinal (sum (number x) g) (translated x g)
      (λ t m. elim (sum-left_cases (number x) g t m) [
        | inl (y, w, e) ↦
            let (z, f, k) = among-map (number_lefts x) number y w in
            let s : ℕ = exp_of x in
            let r = near_left s g never in
            let q = exp-lefts x z k in (
              sum (number x) r.near,
              left_of x g r.near r.option,
              at_left t (sum (number z) g) (sum (number x) r.near) (e ∙ ap (λ v. sum v g) f)
                  (le_trans (sum (number z) g) (sum (number z) (number (ratio (r.at +ℤ pos 1) s)))
                  (sum (number x) r.near) (sum-le_second g (number (ratio (r.at +ℤ pos 1) s)) (number z) r.above)
                  (le_trans (sum (number z) (number (ratio (r.at +ℤ pos 1) s))) (sum (number x) (number (ratio r.at s)))
                  (sum (number x) r.near)
                  (exchange s x z r.at (omega arith) (omega arith) (units-lefts s x z (omega arith) k))
                  (sum-le_second (number (ratio r.at s)) r.near (number x) r.below))),
            )
        | inr (a, w, e) ↦ (
          sum (number x) a,
          left_of x g a w,
          at_left t (sum (number x) a) (sum (number x) a) e
              (le_refl (sum (number x) a)),
        )
      ])
      (λ t m. let (b, w, e) = right_cases x g t m in (
        sum (number x) b,
        sum-right_second (number x) g b w,
        at_right t (sum (number x) b) (sum (number x) b) e
            (le_refl (sum (number x) b)),
      )),
  le-cofinal (translated x g) (sum (number x) g)
      (λ t m. let (a, w, e) = left_cases x g t m in (
        sum (number x) a,
        sum-left_second (number x) g a w,
        at_left t (sum (number x) a) (sum (number x) a) e
            (le_refl (sum (number x) a)),
      ))
      (λ t m. elim (sum-right_cases (number x) g t m) [
        | inl (y, w, e) ↦
            let (z, f, k) = among-map (number_rights x) number y w in
            let s : ℕ = exp_of x in
            let r = near_right s g never in
            let q = exp-rights x z k in (
              sum (number x) r.near,
              right_of x g r.near r.option,
              at_right t (sum (number z) g) (sum (number x) r.near) (e ∙ ap (λ v. sum v g) f)
                  (le_trans (sum (number x) r.near) (sum (number x) (number (ratio (r.at +ℤ pos 1) s)))
                  (sum (number z) g) (sum-le_second r.near (number (ratio (r.at +ℤ pos 1) s)) (number x) r.above)
                  (le_trans (sum (number x) (number (ratio (r.at +ℤ pos 1) s))) (sum (number z) (number (ratio r.at s)))
                  (sum (number z) g)
                  (exchange s z x r.at (omega arith) (omega arith) (units-rights s x z (omega arith) k))
                  (sum-le_second (number (ratio r.at s)) g (number z) r.below))),
            )
        | inr (b, w, e) ↦ (
          sum (number x) b,
          right_of x g b w,
          at_right t (sum (number x) b) (sum (number x) b) e
              (le_refl (sum (number x) b)),
        )
      ]),
)

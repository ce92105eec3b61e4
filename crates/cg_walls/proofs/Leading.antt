-- Which of two walls is the greater, up to the next event.
use Rattle.std.proofs.Common.{◌≡◌, refl, ℕ, ◌+◌, ◌-◌, ◌<◌, ◌≤◌, arith, suc, ap, sym, ◌∙◌, Bool, true, false, not, ◌||◌, ◌&&◌}
use Rattle.std.proofs.Common.{cond, inl, inr, ◌⊎◌, unsigned_abs, ℤ, pos, ◌+ℤ◌, ◌-ℤ◌, ◌≤ℤ◌, ◌<ℤ◌}
use Rattle.std.proofs.lemmas.Int.{ints}
use lib.Signed.{le_z, lt_z}
use Rattle.std.specs.Int.{int_max}
use Rattle.cg_walls.specs.declared.TheConstants.{END}
use Rattle.cg_walls.specs.declared.place.Place.{Place}
use Rattle.cg_walls.specs.declared.rise.Rise.{Rise}
use Rattle.cg_walls.specs.Places.{At, catch_up, event, leads, next_of}
use Rattle.cg_walls.specs.Rises.{rises_of, step, steps, value_at}
use Rattle.cg_walls.proofs.Rising.{steady, value-suc}
use Rattle.cg_walls.proofs.Walking.{at-steady}

-- ---- the greater

pub greater_left : (a b : ℤ) → b ≤ℤ a → int_max a b ≡ a
greater_left a b h = grind (arith, ints)

pub greater_right : (a b : ℤ) → a ≤ℤ b → int_max a b ≡ b
greater_right a b h = grind (arith, ints)

le_true : (a b : ℤ) → a ≤ℤ b → le_z a b ≡ true
le_true a b h = grind (arith, ints)

le_false : (a b : ℤ) → b <ℤ a → le_z a b ≡ false
le_false a b h = grind (arith, ints)

lt_true : (a b : ℤ) → a <ℤ b → lt_z a b ≡ true
lt_true a b h = grind (arith, ints)

pub le_or_lt : (a b : ℤ) → (a ≤ℤ b) ⊎ (b <ℤ a)
le_or_lt a b = grind (arith, ints)

-- ---- what leads

abbrev leads_of : Bool → Bool → ℤ → ℤ → Bool
leads_of i j x y = cond (le_z x y) (cond (le_z y x) (i || j) j) i

-- one step, from k steps further on than x and y
one_step : (i j : Bool) (x y : ℤ) (k : ℕ) → (i ≡ true → j ≡ false → x <ℤ y → (x +ℤ pos k) <ℤ y)
    → (j ≡ true → i ≡ false → y <ℤ x → (y +ℤ pos k) <ℤ x)
    → int_max (x +ℤ steps i k +ℤ step i) (y +ℤ steps j k +ℤ step j)
    ≡ int_max (x +ℤ steps i k) (y +ℤ steps j k) +ℤ step (leads_of i j x y)
one_step true true x y k p q = elim (le_or_lt x y) [
  | inl h ↦ (let s : leads_of true true x y ≡ true = ap (λ b. cond b (cond (le_z y x) true true) true) (le_true x y h) ∙ both (le_z y x) in
      let g = greater_right (x +ℤ pos k +ℤ pos 1) (y +ℤ pos k +ℤ pos 1) (omega (arith, ints)) in
      let e = greater_right (x +ℤ pos k) (y +ℤ pos k) (omega (arith, ints)) in
      let t = ap step s in omega (arith, ints))
  | inr h ↦ (let s : leads_of true true x y ≡ true = ap (λ b. cond b (cond (le_z y x) true true) true) (le_false x y h) in
      let g = greater_left (x +ℤ pos k +ℤ pos 1) (y +ℤ pos k +ℤ pos 1) (omega (arith, ints)) in
      let e = greater_left (x +ℤ pos k) (y +ℤ pos k) (omega (arith, ints)) in
      let t = ap step s in omega (arith, ints))
]
  where
    both : (b : Bool) → cond b true true ≡ true
    both true = refl
    both false = refl
one_step false false x y k p q = elim (le_or_lt x y) [
  | inl h ↦ (let s : leads_of false false x y ≡ false = ap (λ b. cond b (cond (le_z y x) false false) false) (le_true x y h) ∙ both (le_z y x) in
      let g = greater_right (x +ℤ pos 0 +ℤ pos 0) (y +ℤ pos 0 +ℤ pos 0) (omega (arith, ints)) in
      let e = greater_right (x +ℤ pos 0) (y +ℤ pos 0) (omega (arith, ints)) in
      let t = ap step s in omega (arith, ints))
  | inr h ↦ (let s : leads_of false false x y ≡ false = ap (λ b. cond b (cond (le_z y x) false false) false) (le_false x y h) in
      let g = greater_left (x +ℤ pos 0 +ℤ pos 0) (y +ℤ pos 0 +ℤ pos 0) (omega (arith, ints)) in
      let e = greater_left (x +ℤ pos 0) (y +ℤ pos 0) (omega (arith, ints)) in
      let t = ap step s in omega (arith, ints))
]
  where
    both : (b : Bool) → cond b false false ≡ false
    both true = refl
    both false = refl
one_step true false x y k p q = elim (le_or_lt y x) [
  | inl h ↦ (let s : leads_of true false x y ≡ true = ap (λ b. cond (le_z x y) (cond b true false) true) (le_true y x h) ∙ both (le_z x y) in
      let g = greater_left (x +ℤ pos k +ℤ pos 1) (y +ℤ pos 0 +ℤ pos 0) (omega (arith, ints)) in
      let e = greater_left (x +ℤ pos k) (y +ℤ pos 0) (omega (arith, ints)) in
      let t = ap step s in omega (arith, ints))
  | inr h ↦ (let c = p refl refl h in
      let s : leads_of true false x y ≡ false = ap (λ b. cond b (cond (le_z y x) true false) true) (le_true x y (omega (arith, ints)))
      ∙ ap (λ b. cond b true false) (le_false y x h) in
      let g = greater_right (x +ℤ pos k +ℤ pos 1) (y +ℤ pos 0 +ℤ pos 0) (omega (arith, ints)) in
      let e = greater_right (x +ℤ pos k) (y +ℤ pos 0) (omega (arith, ints)) in
      let t = ap step s in omega (arith, ints))
]
  where
    both : (b : Bool) → cond b true true ≡ true
    both true = refl
    both false = refl
one_step false true x y k p q = elim (le_or_lt x y) [
  | inl h ↦ (let s : leads_of false true x y ≡ true = ap (λ b. cond b (cond (le_z y x) true true) false) (le_true x y h) ∙ both (le_z y x) in
      let g = greater_right (x +ℤ pos 0 +ℤ pos 0) (y +ℤ pos k +ℤ pos 1) (omega (arith, ints)) in
      let e = greater_right (x +ℤ pos 0) (y +ℤ pos k) (omega (arith, ints)) in
      let t = ap step s in omega (arith, ints))
  | inr h ↦ (let c = q refl refl h in
      let s : leads_of false true x y ≡ false = ap (λ b. cond b (cond (le_z y x) true true) false) (le_false x y h) in
      let g = greater_left (x +ℤ pos 0 +ℤ pos 0) (y +ℤ pos k +ℤ pos 1) (omega (arith, ints)) in
      let e = greater_left (x +ℤ pos 0) (y +ℤ pos k) (omega (arith, ints)) in
      let t = ap step s in omega (arith, ints))
]
  where
    both : (b : Bool) → cond b true true ≡ true
    both true = refl
    both false = refl

-- ---- up to the next event

unfoldable pub upper : Rise → Rise → ℕ → ℤ
upper a b t = int_max (value_at a t) (value_at b t)

-- before the catching up
not_yet : (now u : ℕ) (p q : Place) → u < catch_up now p q → now ≤ u → p.up ≡ true → q.up ≡ false → p.value <ℤ q.value
    → (p.value +ℤ pos (u - now)) <ℤ q.value
not_yet now u p q h k i j lt =
    let c : catch_up now p q ≡ now + unsigned_abs (q.value -ℤ p.value) =
    ap (λ b. cond (b && (p.up && not q.up)) (now + unsigned_abs (q.value -ℤ p.value)) END) (lt_true p.value q.value lt)
    ∙ ap (λ b. cond (b && not q.up) (now + unsigned_abs (q.value -ℤ p.value)) END) i
    ∙ ap (λ b. cond (not b) (now + unsigned_abs (q.value -ℤ p.value)) END) j in
    let a = size (q.value -ℤ p.value) (omega (arith, ints)) in
    omega (arith, ints)
  where
    size : (n : ℤ) → pos 0 ≤ℤ n → pos (unsigned_abs n) ≡ n
    size n h = grind (arith, ints)

pub led : (a b : Rise) (now u : ℕ) (p q : Place) → At a now p → At b now q → now ≤ u → u < event a b now p q
    → upper a b (suc u) ≡ upper a b u +ℤ step (leads p q)
unfolding upper
led a b now u p q f g h k =
    let na : u < next_of a p = omega arith in
    let nb : u < next_of b q = omega arith in
    let ca : u < catch_up now p q = omega arith in
    let cb : u < catch_up now q p = omega arith in
    let va : value_at a u ≡ p.value +ℤ steps p.up (u - now) = steady a p.up now u h (λ v i j. at-steady a now p f v i (omega arith))
    ∙ ap (λ z. z +ℤ steps p.up (u - now)) (sym f.value) in
    let vb : value_at b u ≡ q.value +ℤ steps q.up (u - now) = steady b q.up now u h (λ v i j. at-steady b now q g v i (omega arith))
    ∙ ap (λ z. z +ℤ steps q.up (u - now)) (sym g.value) in
    let wa : value_at a (suc u) ≡ p.value +ℤ steps p.up (u - now) +ℤ step p.up = value-suc a u
    ∙ ap (λ z. z +ℤ step (rises_of a u)) va ∙ ap (λ z. p.value +ℤ steps p.up (u - now) +ℤ step z) (at-steady a now p f u h na) in
    let wb : value_at b (suc u) ≡ q.value +ℤ steps q.up (u - now) +ℤ step q.up = value-suc b u
    ∙ ap (λ z. z +ℤ step (rises_of b u)) vb ∙ ap (λ z. q.value +ℤ steps q.up (u - now) +ℤ step z) (at-steady b now q g u h nb) in
    ap (λ z. int_max z (value_at b (suc u))) wa ∙ ap (λ z. int_max (p.value +ℤ steps p.up (u - now) +ℤ step p.up) z) wb
    ∙ one_step p.up q.up p.value q.value (u - now) (λ i j lt. not_yet now u p q ca h i j lt) (λ i j lt. not_yet now u q p cb h i j lt)
    ∙ ap (λ z. z +ℤ step (leads p q)) (sym (ap (λ z. int_max z (value_at b u)) va ∙ ap (λ z. int_max (p.value +ℤ steps p.up (u - now)) z) vb))

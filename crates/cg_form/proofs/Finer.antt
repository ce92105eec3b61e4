-- Walls at a scale and at the next finer one, and that the scaffolds of a game that equals no number cool.
use Rattle.std.proofs.Common.{◌≡◌, refl, ℕ, ◌+◌, ◌*◌, ◌<◌, ◌≤◌, arith, zero, suc, ◌⊎◌, inl, inr, ap, sym, subst, ℤ, pos, ◌+ℤ◌, ◌≤ℤ◌}
use Rattle.std.proofs.lemmas.Int.{ints}
use Rattle.cg_dyadic.specs.Units.{units}
use Rattle.cg_dyadic.proofs.Integers.{le_or_lt}
use Rattle.cg_dyadic.proofs.Scale.{units-suc}
use Rattle.cg_form.specs.Cooling.{Cool, Steps}
use Rattle.cg_form.specs.Game.{Among, Game, lefts, number, options, rights}
use Rattle.cg_form.specs.Heights.{height}
use Rattle.cg_form.specs.Simple.{Decided, Decides, NoNumber}
use Rattle.cg_form.specs.Size.{size}
use Rattle.cg_form.specs.Walls.{AtNext, Walls, cooled, scaffold, scaffold_of, walls, walls_by, walls_within}
use Rattle.cg_form.proofs.Cooled.{cooled-ordered, ordered_along, stays, steps_along, uncrossed}
use Rattle.cg_form.proofs.Greatest.{greatest_sum, least_sum}
use Rattle.cg_form.proofs.Heights.{height-left, height-right, not_number, number-low}
use Rattle.cg_form.proofs.Size.{size-lefts, size-rights}
use Rattle.cg_form.proofs.WallStart.{start_of}
use Rattle.cg_form.proofs.Walls.{scaffold-as, scaffold-steps, walls-none, walls-number, walls_within-steps}

-- ---- what is finer

abbrev pub twice : ℕ → ℕ
twice zero = zero
twice (suc t) = suc (suc (twice t))

pub record Finer (f h : ℕ → Walls) : Type 0 where
  pub even_left : (t : ℕ) → (h (twice t)).left ≡ (f t).left +ℤ (f t).left
  pub even_right : (t : ℕ) → (h (twice t)).right ≡ (f t).right +ℤ (f t).right
  pub odd_left : (t : ℕ) → (h (suc (twice t))).left ≡ (f t).left +ℤ (f (suc t)).left
  pub odd_right : (t : ℕ) → (h (suc (twice t))).right ≡ (f t).right +ℤ (f (suc t)).right

-- ---- cooling keeps it

record Pair (v w x y : Walls) : Type 0 where
  left : v.left ≡ w.left +ℤ x.left
  right : v.right ≡ w.right +ℤ x.right

pair_along : (v v' w w' x x' y : Walls) → v ≡ v' → w ≡ w' → x ≡ x' → Pair v' w' x' y → Pair v w x y
pair_along v v' w w' x x' y e f g h = rw e (rw f (rw g h))

odd_at : (f h : ℕ → Walls) → Cool f → Finer f h → (t : ℕ) → Pair (cooled h (twice t)) (cooled f t) (cooled f t) (f t)
    → Pair (cooled h (suc (twice t))) (cooled f t) (cooled f (suc t)) (f t)
odd_at f h c n t e =
    let ol = n.odd_left t in let or = n.odd_right t in
    let s = c.steps t in let a = s.left_falls in let b = s.left_by_one in let g = s.right_rises in
    let k = s.right_by_one in
    elim (le_or_lt (f (suc t)).right (f (suc t)).left) [
      | inl p ↦ pair_along (cooled h (suc (twice t))) (h (suc (twice t))) (cooled f t) (f t) (cooled f (suc t))
          (f (suc t)) (f t)
          (uncrossed h (suc (twice t)) (omega (arith, ints))) (uncrossed f t (omega (arith, ints)))
          (uncrossed f (suc t) p) (record { left = ol; right = or })
      | inr p ↦ elim (le_or_lt (f t).left (f t).right) [
        | inl q ↦ pair_along (cooled h (suc (twice t))) (cooled h (twice t)) (cooled f t) (cooled f t)
            (cooled f (suc t)) (cooled f t) (f t)
            (stays h (twice t) (omega (arith, ints))) refl (stays f t p) (record { left = e.left; right = e.right })
        | inr q ↦ absurd (c.no_jump t (omega (arith, ints)) (omega (arith, ints)))
      ]
    ]

cooled-even : (f h : ℕ → Walls) → Cool f → Finer f h → (t : ℕ)
    → Pair (cooled h (twice t)) (cooled f t) (cooled f t) (f t)
cooled-even f h c n zero = record { left = n.even_left 0; right = n.even_right 0 }
cooled-even f h c n (suc t) =
    let o = odd_at f h c n t (cooled-even f h c n t) in
    let el = n.even_left (suc t) in let er = n.even_right (suc t) in
    elim (le_or_lt (f (suc t)).right (f (suc t)).left) [
      | inl p ↦ pair_along (cooled h (twice (suc t))) (h (twice (suc t))) (cooled f (suc t)) (f (suc t))
          (cooled f (suc t)) (f (suc t)) (f (suc t))
          (uncrossed h (twice (suc t)) (omega (arith, ints))) (uncrossed f (suc t) p) (uncrossed f (suc t) p)
          (record { left = el; right = er })
      | inr p ↦ pair_along (cooled h (twice (suc t))) (cooled h (suc (twice t))) (cooled f (suc t)) (cooled f t)
          (cooled f (suc t)) (cooled f (suc t)) (f (suc t))
          (stays h (suc (twice t)) (omega (arith, ints))) (stays f t p) refl (record { left = o.left; right = o.right })
    ]

pub cooled-finer : (f h : ℕ → Walls) → Cool f → Finer f h → Finer (cooled f) (cooled h)
cooled-finer f h c n = record {
  even_left = λ t. (cooled-even f h c n t).left;
  even_right = λ t. (cooled-even f h c n t).right;
  odd_left = λ t. (odd_at f h c n t (cooled-even f h c n t)).left;
  odd_right = λ t. (odd_at f h c n t (cooled-even f h c n t)).right;
}

-- ---- scaffolds keep it

same_bounds : (a : ℤ) → (a ≤ℤ a) × (a ≤ℤ (a +ℤ pos 1))
same_bounds a = (omega (arith, ints), omega (arith, ints))

pub twice_pos : (t : ℕ) → pos (twice t) ≡ pos t +ℤ pos t
twice_pos zero = refl
twice_pos (suc t) = let i = twice_pos t in omega (arith, ints)

pub scaffold-finer : (w x : ℕ → Game → Walls) (g : Game) → ((t : ℕ) (a : Game) → Steps (w t a) (w (suc t) a))
    → ((a : Game) → Among a (lefts g) → Finer (λ t. w t a) (λ t. x t a))
    → ((b : Game) → Among b (rights g) → Finer (λ t. w t b) (λ t. x t b))
    → Finer (scaffold w g) (scaffold x g)
scaffold-finer w x g st l r = record {
  even_left = λ t. (let e = greatest_sum (λ a. (w t a).right) (λ a. (w t a).right) (λ a. (x (twice t) a).right)
      (lefts g) (λ a m. (l a m).even_right t) (λ a. same_bounds (w t a).right) in
      let p = twice_pos t in omega (arith, ints));
  even_right = λ t. (let e = least_sum (λ a. (w t a).left) (λ a. (w t a).left) (λ a. (x (twice t) a).left) (rights g)
      (λ a m. (r a m).even_left t) (λ a. same_bounds (w t a).left) in
      let p = twice_pos t in omega (arith, ints));
  odd_left = λ t. (let e = greatest_sum (λ a. (w t a).right) (λ a. (w (suc t) a).right)
      (λ a. (x (suc (twice t)) a).right) (lefts g) (λ a m. (l a m).odd_right t)
      (λ a. let s = st t a in (s.right_rises, s.right_by_one)) in
      let p = twice_pos t in omega (arith, ints));
  odd_right = λ t. (let e = least_sum (λ a. (w t a).left) (λ a. (w (suc t) a).left) (λ a. (x (suc (twice t)) a).left)
      (rights g) (λ a m. (r a m).odd_left t)
      (λ a. let s = st t a in (s.left_falls, s.left_by_one)) in
      let p = twice_pos t in omega (arith, ints));
}

-- ---- no jump

pub even_or_odd : (t : ℕ) → ((u : ℕ) × (t ≡ twice u)) ⊎ ((u : ℕ) × (t ≡ suc (twice u)))
even_or_odd zero = inl (zero, refl)
even_or_odd (suc t) = elim (even_or_odd t) [
  | inl w ↦ inr (w.0, ap suc w.1)
  | inr w ↦ inl (suc w.0, ap suc w.1)
]

no_one_apart : (a b c d : ℤ) → a ≡ c +ℤ c → b ≡ d +ℤ d → a ≡ b +ℤ pos 1 → ⊥
no_one_apart a b c d e f g = omega (arith, ints)

-- what is finer has even differences at even t, so none passes from 1 to -1
pub finer-no_jump : (f h : ℕ → Walls) → Finer f h → (t : ℕ) → (h t).left ≡ (h t).right +ℤ pos 1
    → (h (suc t)).right ≡ (h (suc t)).left +ℤ pos 1 → ⊥
finer-no_jump f h n t p q = elim (even_or_odd t) [
  | inl w ↦
      no_one_apart (h (twice w.0)).left (h (twice w.0)).right (f w.0).left (f w.0).right (n.even_left w.0)
      (n.even_right w.0) (rw w.1 at p)
  | inr w ↦
      no_one_apart (h (twice (suc w.0))).right (h (twice (suc w.0))).left (f (suc w.0)).right (f (suc w.0)).left
      (n.even_right (suc w.0)) (n.even_left (suc w.0)) (rw w.1 at q)
]

-- ---- the walls

positive : (s h : ℕ) → 0 < h → h ≤ s → (r : ℕ) × (s ≡ suc r) × (h ≤ suc r)
positive zero h p q = absurd (omega arith)
positive (suc r) h p q = (r, refl, q)

high : (g : Game) → NoNumber g → 0 < height g
high (number x) n = absurd (not_number x n)
high (options ls rs) n = omega arith

cool_from : (d : Decides) (n s : ℕ) (g : Game) → NoNumber g → size g < suc n → height g ≤ s
    → ((r : ℕ) → s ≡ suc r → (a : Game) → Among a (lefts g)
    → Finer (λ t. walls_within d n r t a) (λ t. walls_within d n s t a))
    → ((r : ℕ) → s ≡ suc r → (b : Game) → Among b (rights g)
    → Finer (λ t. walls_within d n r t b) (λ t. walls_within d n s t b))
    → Cool (scaffold (walls_within d n s) g)
cool_from d n s g never p h l r =
    let (q, e, k) = positive s (height g) (high g never) h in
    record {
      steps = scaffold-steps (walls_within d n s) g (λ t a. walls_within-steps d n s t a);
      start = start_of d n s g never p h;
      no_jump = finer-no_jump (scaffold (walls_within d n q) g) (scaffold (walls_within d n s) g)
          (scaffold-finer (walls_within d n q) (walls_within d n s) g (λ t a. walls_within-steps d n q t a) (l q e)
          (r q e));
    }

finer_by : (d : Decides) (n s : ℕ) (g : Game) (c : Decided g) → size g < suc n → height g ≤ s
    → (NoNumber g → (q r : ℕ) → r ≡ suc q → height g ≤ suc q → (a : Game) → Among a (lefts g)
    → Finer (λ t. walls_within d n q t a) (λ t. walls_within d n r t a))
    → (NoNumber g → (q r : ℕ) → r ≡ suc q → height g ≤ suc q → (b : Game) → Among b (rights g)
    → Finer (λ t. walls_within d n q t b) (λ t. walls_within d n r t b))
    → Finer (λ t. walls_by g c s (scaffold (walls_within d n s) g) t)
    (λ t. walls_by g c (suc s) (scaffold (walls_within d n (suc s)) g) t)
finer_by d n s g (inl w) p h l r =
    let e = number-low d g w.0 w.1 in
    let u = units-suc s w.0 (omega arith) in
    record { even_left = λ t. u; even_right = λ t. u; odd_left = λ t. u; odd_right = λ t. u }
finer_by d n s g (inr never) p h l r =
    cooled-finer (scaffold (walls_within d n s) g) (scaffold (walls_within d n (suc s)) g)
    (cool_from d n s g never p h (λ q e a m. l never q s e (omega arith) a m)
    (λ q e a m. r never q s e (omega arith) a m))
    (scaffold-finer (walls_within d n s) (walls_within d n (suc s)) g (λ t a. walls_within-steps d n s t a)
    (λ a m. l never s (suc s) refl (omega arith) a m) (λ b m. r never s (suc s) refl (omega arith) b m))

pub finer_within : (d : Decides) (n s r : ℕ) (g : Game) → r ≡ suc s → size g < n → height g ≤ s
    → Finer (λ t. walls_within d n s t g) (λ t. walls_within d n r t g)
unfolding walls_within
finer_within d zero s r g e p h = absurd (omega arith)
finer_within d (suc n) s r g e p h =
    rw e (finer_by d n s g (d g) p h
    (λ never q k f i a m. let u = size-lefts g a m in let v = height-left g a never m in
    finer_within d n q k a f (omega arith) (omega arith))
    (λ never q k f i a m. let u = size-rights g a m in let v = height-right g a never m in
    finer_within d n q k a f (omega arith) (omega arith)))

pub cool_scaffold : (d : Decides) (n s : ℕ) (g : Game) → NoNumber g → size g < suc n → height g ≤ s
    → Cool (scaffold (walls_within d n s) g)
cool_scaffold d n s g never p h = cool_from d n s g never p h
    (λ q e a m. let u = size-lefts g a m in let v = height-left g a never m in
    finer_within d n q s a e (omega arith) (omega arith))
    (λ q e a m. let u = size-rights g a m in let v = height-right g a never m in
    finer_within d n q s a e (omega arith) (omega arith))

pub walls-finer : (d : Decides) (s : ℕ) (g : Game) → height g ≤ s
    → Finer (λ t. walls d s t g) (λ t. walls d (suc s) t g)
unfolding walls
walls-finer d s g h = finer_within d (suc (size g)) s (suc s) g refl (omega arith) h

twice_is : (t : ℕ) → twice t ≡ 2 * t
twice_is zero = refl
twice_is (suc t) = let i = twice_is t in omega arith

pub next_scale : (d : Decides) (s : ℕ) (g : Game) → height g ≤ s → (t : ℕ)
    → AtNext (walls d (suc s) (2 * t) g) (walls d (suc s) (2 * t + 1) g) (walls d s t g) (walls d s (suc t) g)
next_scale d s g h t =
    let f = walls-finer d s g h in
    let e = twice_is t in
    let i : suc (twice t) ≡ 2 * t + 1 = omega arith in
    rw (← i) (rw (← e) (record {
      even_left = f.even_left t;
      even_right = f.even_right t;
      odd_left = f.odd_left t;
      odd_right = f.odd_right t;
    }))

-- ---- the scaffolds cool

pub cool : (d : Decides) (s : ℕ) (g : Game) → NoNumber g → height g ≤ s → Cool (scaffold_of d s g)
cool d s g never h =
    let c = cool_scaffold d (size g) s g never (omega arith) h in
    let P : Walls → Type 0 = λ z. z.right ≤ℤ z.left in
    let f : (t : ℕ) → scaffold (walls_within d (size g) s) g t ≡ scaffold_of d s g t = scaffold-as d s g in
    record {
      steps = λ t. steps_along (scaffold_of d s g t) (scaffold (walls_within d (size g) s) g t)
          (scaffold_of d s g (suc t)) (scaffold (walls_within d (size g) s) g (suc t)) (sym (f t)) (sym (f (suc t)))
          (c.steps t);
      start = subst P (f 0) c.start;
      no_jump = λ t p q. c.no_jump t
          (let Q : Walls → Type 0 = λ z. z.left ≡ z.right +ℤ pos 1 in subst Q (sym (f t)) p)
          (let Q : Walls → Type 0 = λ z. z.right ≡ z.left +ℤ pos 1 in subst Q (sym (f (suc t))) q);
    }

ordered_by : (d : Decides) (s t : ℕ) (g : Game) → Decided g → height g ≤ s
    → (walls d s t g).right ≤ℤ (walls d s t g).left
ordered_by d s t g (inl w) h = ordered_along (walls d s t g)
    (let v : Walls = record { left = units s w.0; right = units s w.0 } in v) (walls-number d s t g w.0 w.1)
    (omega (arith, ints))
ordered_by d s t g (inr n) h = ordered_along (walls d s t g) (cooled (scaffold_of d s g) t) (walls-none d s t g n)
    (cooled-ordered (scaffold_of d s g) (cool d s g n h).start t)

pub walls-ordered : (d : Decides) (s t : ℕ) (g : Game) → height g ≤ s → (walls d s t g).right ≤ℤ (walls d s t g).left
walls-ordered d s t g h = ordered_by d s t g (d g) h

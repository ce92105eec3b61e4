-- A game that equals no number has a temperature, and equal games have equal ones.
use Rattle.std.proofs.Common.{◌≡◌, ℕ, ◌+◌, ◌-◌, ◌<◌, ◌≤◌, arith, zero, suc, ◌⊎◌, inl, inr, ap, sym, ◌∙◌, map, unsigned_abs, ℤ, ◌≤ℤ◌, ◌<ℤ◌}
use Rattle.std.proofs.lemmas.Int.{ints}
use Rattle.cg_dyadic.proofs.Integers.{abs_tells, le_or_lt}
use Rattle.cg_form.specs.Cooling.{Cool}
use Rattle.cg_form.specs.Game.{Game, lefts, rights}
use Rattle.cg_form.specs.Heights.{height}
use Rattle.cg_form.specs.Order.{Equal}
use Rattle.cg_form.specs.Simple.{Decides, NoNumber}
use Rattle.cg_form.specs.Walls.{MeetAt, TemperatureIs, Walls, cooled, greatest, least, scaffold_of, walls}
use Rattle.cg_form.proofs.Cooled.{meet, stays, uncrossed, walls_same}
use Rattle.cg_form.proofs.Finer.{cool, walls-ordered}
use Rattle.cg_form.proofs.Greatest.{at_greatest, at_least, greatest_below, least_above}
use Rattle.cg_form.proofs.Heights.{height-left, height-right}
use Rattle.cg_form.proofs.Integers.{some_lefts, some_rights}
use Rattle.cg_form.proofs.WallOrder.{walls-equal}
use Rattle.cg_form.proofs.Walls.{walls-none, walls-steps}

-- ---- the scaffolds agree at some t

pub find : (f : ℕ → Walls) → Cool f → (m t e : ℕ) → e ≡ t + m → (f t).right ≤ℤ (f t).left → (f e).left <ℤ (f e).right
    → (u : ℕ) × ((f u).left ≡ (f u).right)
find f c zero t e q p h =
    let i : e ≡ t = omega arith in
    let k = rw i at h in absurd (omega (arith, ints))
find f c (suc m) t e q p h = elim (le_or_lt (f (suc t)).right (f (suc t)).left) [
  | inl k ↦ find f c m (suc t) e (omega arith) k h
  | inr k ↦ (t, meet (f t) (f (suc t)) (c.steps t) k p (c.no_jump t))
]

falls : (d : Decides) (s t : ℕ) (g : Game) → (walls d s t g).left ≤ℤ (walls d s 0 g).left
falls d s zero g = omega (arith, ints)
falls d s (suc t) g = let i = falls d s t g in let k = (walls-steps d s t g).left_falls in omega (arith, ints)

rises : (d : Decides) (s t : ℕ) (g : Game) → (walls d s 0 g).right ≤ℤ (walls d s t g).right
rises d s zero g = omega (arith, ints)
rises d s (suc t) g = let i = rises d s t g in let k = (walls-steps d s t g).right_rises in omega (arith, ints)

pub scaffolds_agree : (d : Decides) (s : ℕ) (g : Game) → NoNumber g → height g ≤ s
    → (t : ℕ) × ((scaffold_of d s g t).left ≡ (scaffold_of d s g t).right)
scaffolds_agree d s g never h =
    let l : ℤ = greatest (map (λ a. (walls d s 0 a).left) (lefts g)) in
    let r : ℤ = least (map (λ b. (walls d s 0 b).right) (rights g)) in
    let t : ℕ = suc (unsigned_abs l + unsigned_abs r) in
    let c = cool d s g never h in
    let p = greatest_below (λ a. (walls d s t a).right) (lefts g) l (some_lefts g never) (λ a m.
    let u = height-left g a never m in let v = walls-ordered d s t a (omega arith) in let w = falls d s t a in
    let x = at_greatest (λ a. (walls d s 0 a).left) (lefts g) a m in omega (arith, ints)) in
    let q = least_above (λ b. (walls d s t b).left) (rights g) r (some_rights g never) (λ b m.
    let u = height-right g b never m in let v = walls-ordered d s t b (omega arith) in let w = rises d s t b in
    let x = at_least (λ b. (walls d s 0 b).right) (rights g) b m in omega (arith, ints)) in
    let x = abs_tells l in let y = abs_tells r in
    find (scaffold_of d s g) c t 0 t (omega arith) c.start (omega (arith, ints))

-- the least t is there
pub temperature-there : (d : Decides) (s : ℕ) (g : Game)
    → ((t : ℕ) × ((scaffold_of d s g t).left ≡ (scaffold_of d s g t).right)) → (t : ℕ) × TemperatureIs d s g t
temperature-there d s g w = search_from w.0 0 (omega arith) (λ u h. absurd (omega arith))
  where
    int_same : (a b : ℤ) → (a ≡ b) ⊎ ((a ≡ b) → ⊥)
    int_same a b = elim (le_or_lt a b) [
      | inl p ↦ elim
          (le_or_lt b a) [ inl q ↦ inl (omega (arith, ints)) | inr q ↦ inr (λ e. omega (arith, ints)) ]
      | inr p ↦ inr
          (λ e. omega (arith, ints))
    ]

    below : (u t : ℕ) → u < suc t → (u < t) ⊎ (u ≡ t)
    below u t h = grind arith

    search_from : (m t : ℕ) → w.0 ≡ t + m
        → ((u : ℕ) → u < t → ¬ ((scaffold_of d s g u).left ≡ (scaffold_of d s g u).right))
        → (t : ℕ) × TemperatureIs d s g t
    search_from zero t e f = let i : w.0 ≡ t = omega arith in
        (t, record { agree = rw i at w.1; before = f })
    search_from (suc m) t e f = elim (int_same (scaffold_of d s g t).left (scaffold_of d s g t).right) [
      | inl p ↦ (t, record { agree = p; before = f })
      | inr p ↦ search_from m (suc t) (omega arith) (λ u h. elim (below u t h) [
        | inl k ↦ f u k
        | inr k ↦ rw k p
      ])
    ]

-- ---- the walls below the temperature, and the mast above it

-- w comes later than v: the left has fallen, the right has risen
pub record Later (v w : Walls) : Type 0 where
  pub left : w.left ≤ℤ v.left
  pub right : v.right ≤ℤ w.right

pub later : (f : ℕ → Walls) → Cool f → (m t : ℕ) → Later (f t) (f (t + m))
later f c zero t =
    let e : t ≡ t + 0 = omega arith in
    rw (← e) (record { left = omega (arith, ints); right = omega (arith, ints) })
later f c (suc m) t =
    let i = later f c m t in let a = i.left in let b = i.right in
    let s = c.steps (t + m) in let x = s.left_falls in let y = s.right_rises in
    let e : suc (t + m) ≡ t + suc m = omega arith in
    rw (← e) (record { left = omega (arith, ints); right = omega (arith, ints) })

-- before scaffolds that are in order, they are in order
pub earlier : (f : ℕ → Walls) → Cool f → (m u : ℕ) → (f (u + m)).right ≤ℤ (f (u + m)).left → (f u).right ≤ℤ (f u).left
earlier f c m u h = let i = later f c m u in let a = i.left in let b = i.right in omega (arith, ints)

kept_step : (f : ℕ → Walls) (u : ℕ) (v : Walls) → v.left ≡ v.right → cooled f u ≡ v → Later v (f (suc u))
    → cooled f (suc u) ≡ v
kept_step f u v h k b =
    let x = b.left in let y = b.right in
    elim (le_or_lt (f (suc u)).right (f (suc u)).left) [
      | inl p ↦ (let l : (f (suc u)).left ≡ v.left = omega (arith, ints) in
          let r : (f (suc u)).right ≡ v.right = omega (arith, ints) in
          uncrossed f (suc u) p ∙ walls_same (f (suc u)) v l r)
      | inr p ↦ stays f u p ∙ k
    ]

-- from where the scaffolds agree on, the walls keep their value
pub kept : (f : ℕ → Walls) → Cool f → (m t : ℕ) → (f t).left ≡ (f t).right → cooled f (t + m) ≡ f t
kept f c zero t h =
    let e : t ≡ t + 0 = omega arith in
    rw (← e) (uncrossed f t (omega (arith, ints)))
kept f c (suc m) t h =
    let e : t + suc m ≡ suc (t + m) = omega arith in
    rw e (kept_step f (t + m) (f t) h (kept f c m t h) (rw e at (later f c (suc m) t)))

pub walls-below : (d : Decides) (s : ℕ) (g : Game) (t : ℕ) → height g ≤ s → NoNumber g → TemperatureIs d s g t
    → (u : ℕ) → u ≤ t → walls d s u g ≡ scaffold_of d s g u
walls-below d s g t h n x u p =
    let f : ℕ → Walls = scaffold_of d s g in
    let a : (f t).left ≡ (f t).right = x.agree in
    let e : t ≡ u + (t - u) = omega arith in
    let q : (f t).right ≤ℤ (f t).left = omega (arith, ints) in
    walls-none d s u g n ∙ uncrossed f u (earlier f (cool d s g n h) (t - u) u (rw e at q))

pub walls-mast : (d : Decides) (s : ℕ) (g : Game) (t : ℕ) → height g ≤ s → NoNumber g → TemperatureIs d s g t
    → (u : ℕ) → t ≤ u → walls d s u g ≡ scaffold_of d s g t
walls-mast d s g t h n x u p =
    let f : ℕ → Walls = scaffold_of d s g in
    let e : t + (u - t) ≡ u = omega arith in
    walls-none d s u g n ∙ (rw e at (kept f (cool d s g n h) (u - t) t x.agree))

-- ---- equal games

met : (f : ℕ → Walls) → Cool f → (t : ℕ) → MeetAt f t → MeetAt (cooled f) t
met f c t m = let a = m.agree in record {
  agree = rw (uncrossed f t (omega (arith, ints))) a;
  before = λ u h k. (
      let (q, e) = gap u t h in
      let o = earlier f c q u (rw (← e) (omega (arith, ints))) in
      m.before u h (rw (← (uncrossed f u o)) k));
}
  where
    gap : (u t : ℕ) → u < t → (q : ℕ) × (t ≡ u + q)
    gap u t h = (t - u, omega arith)

met-back : (f : ℕ → Walls) → Cool f → (t : ℕ) → MeetAt (cooled f) t → MeetAt f t
met-back f c t m = record {
  agree = at t m;
  before = λ u h k. m.before u h (rw (uncrossed f u (omega (arith, ints))) k);
}
  where
    at : (t : ℕ) → MeetAt (cooled f) t → (f t).left ≡ (f t).right
    at zero m = m.agree
    at (suc t) m = elim (le_or_lt (f (suc t)).right (f (suc t)).left) [
      | inl p ↦ rw (← (uncrossed f (suc t) p)) m.agree
      | inr p ↦ absurd (m.before t (omega arith) (rw (← (stays f t p)) m.agree))
    ]

met_along : (f k : ℕ → Walls) → ((t : ℕ) → f t ≡ k t) → (t : ℕ) → MeetAt f t → MeetAt k t
met_along f k e t m =
    record {
      agree = rw (← (e t)) m.agree;
      before = λ u h j. m.before u h (rw (e u) j);
    }

pub temperature-equal : (d : Decides) (s : ℕ) (g h : Game) → height g ≤ s → height h ≤ s → NoNumber g → NoNumber h
    → Equal g h → (t : ℕ) → TemperatureIs d s g t → TemperatureIs d s h t
temperature-equal d s g h p q n m e t x =
    let f : ℕ → Walls = scaffold_of d s g in
    let k : ℕ → Walls = scaffold_of d s h in
    let i : (u : ℕ) → cooled f u ≡ cooled k u = λ u. sym (walls-none d s u g n) ∙ walls-equal d s g h p q e u
    ∙ walls-none d s u h m in
    met-back k (cool d s h m q) t (met_along (cooled f) (cooled k) i t (met f (cool d s g n p) t x))

-- the value at which the scaffolds agree
pub meeting-equal : (d : Decides) (s : ℕ) (g h : Game) → height g ≤ s → height h ≤ s → NoNumber g → NoNumber h → Equal g h
    → (t : ℕ) → TemperatureIs d s g t → (scaffold_of d s g t).left ≡ (scaffold_of d s h t).left
meeting-equal d s g h p q n m e t x =
    let f : ℕ → Walls = scaffold_of d s g in
    let k : ℕ → Walls = scaffold_of d s h in
    let y = temperature-equal d s g h p q n m e t x in
    let a = x.agree in let b = y.agree in
    let u = uncrossed f t (omega (arith, ints)) in let v = uncrossed k t (omega (arith, ints)) in
    let i : f t ≡ k t = sym u ∙ sym (walls-none d s t g n) ∙ walls-equal d s g h p q e t ∙ walls-none d s t h m ∙ v in
    ap (λ (z : Walls). z.left) i

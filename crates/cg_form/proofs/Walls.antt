-- Walls from the options: the bound of the recursion and the decider do not matter, and from t to t + 1 a wall moves by
-- at most 1.
use Rattle.std.proofs.Common.{◌≡◌, refl, ℕ, ◌<◌, arith, zero, suc, inl, inr, ap, sym, ◌∙◌, map, ℤ, pos, ◌+ℤ◌, ◌-ℤ◌, ◌≤ℤ◌}
use Rattle.std.proofs.lemmas.Int.{ints}
use Rattle.cg_dyadic.specs.Number.{Number}
use Rattle.cg_dyadic.specs.Units.{units}
use Rattle.cg_form.specs.Cooling.{Steps}
use Rattle.cg_form.specs.Game.{Among, Game, lefts, number, rights}
use Rattle.cg_form.specs.Order.{Equal}
use Rattle.cg_form.specs.Simple.{Decided, Decides, NoNumber}
use Rattle.cg_form.specs.Size.{size}
use Rattle.cg_form.specs.Walls.{Walls, cooled, greatest, least, scaffold, scaffold_of, walls, walls_by, walls_within}
use Rattle.cg_form.proofs.Among.{map-agree}
use Rattle.cg_form.proofs.Cooled.{cooled-agree, cooled-steps, still, walls_same}
use Rattle.cg_form.proofs.Greatest.{greatest_up, least_down}
use Rattle.cg_form.proofs.Simplicity.{one_number}
use Rattle.cg_form.proofs.Size.{size-lefts, size-rights}

-- ---- from the options

-- two decisions about a game agree
walls_by-agree : (g : Game) (c e : Decided g) (s : ℕ) (f k : ℕ → Walls) → ((t : ℕ) → f t ≡ k t) → (t : ℕ)
    → walls_by g c s f t ≡ walls_by g e s k t
walls_by-agree g (inl w) (inl v) s f k h t =
    let same : w.0 ≡ v.0 = one_number w.0 v.0 g w.1 v.1 in
    ap (λ z. let u : Walls = record { left = units s z; right = units s z } in u) same
walls_by-agree g (inl w) (inr n) s f k h t = absurd (n w.0 w.1)
walls_by-agree g (inr n) (inl v) s f k h t = absurd (n v.0 v.1)
walls_by-agree g (inr n) (inr m) s f k h t = cooled-agree f k h t

scaffold-agree : (w x : ℕ → Game → Walls) (g : Game) → ((t : ℕ) (a : Game) → Among a (lefts g) → w t a ≡ x t a)
    → ((t : ℕ) (b : Game) → Among b (rights g) → w t b ≡ x t b) → (t : ℕ) → scaffold w g t ≡ scaffold x g t
scaffold-agree w x g l r t =
    let p = map-agree (λ a. (w t a).right) (λ a. (x t a).right) (lefts g)
    (λ a m. ap (λ (z : Walls). z.right) (l t a m)) in
    let q = map-agree (λ b. (w t b).left) (λ b. (x t b).left) (rights g)
    (λ b m. ap (λ (z : Walls). z.left) (r t b m)) in
    walls_same (scaffold w g t) (scaffold x g t) (ap (λ z. greatest z -ℤ pos t) p) (ap (λ z. least z +ℤ pos t) q)

-- beyond the size the bound does not matter, and neither does the decider
pub walls_within-any : (d e : Decides) (n m s t : ℕ) (g : Game) → size g < n → size g < m
    → walls_within d n s t g ≡ walls_within e m s t g
unfolding walls_within
walls_within-any d e zero m s t g p q = absurd (omega arith)
walls_within-any d e (suc n) zero s t g p q = absurd (omega arith)
walls_within-any d e (suc n) (suc m) s t g p q = walls_by-agree g (d g) (e g) s (scaffold (walls_within d n s) g)
    (scaffold (walls_within e m s) g)
    (scaffold-agree (walls_within d n s) (walls_within e m s) g
    (λ u a k. let z = size-lefts g a k in walls_within-any d e n m s u a (omega arith) (omega arith))
    (λ u b k. let z = size-rights g b k in walls_within-any d e n m s u b (omega arith) (omega arith))) t

pub walls-as : (d : Decides) (n s t : ℕ) (g : Game) → size g < n → walls d s t g ≡ walls_within d n s t g
unfolding walls
walls-as d n s t g p = walls_within-any d d (suc (size g)) n s t g (omega arith) p

pub walls-unique : (d e : Decides) (s t : ℕ) (g : Game) → walls d s t g ≡ walls e s t g
unfolding walls
walls-unique d e s t g = walls_within-any d e (suc (size g)) (suc (size g)) s t g (omega arith) (omega arith)

pub scaffold-as : (d : Decides) (s : ℕ) (g : Game) (t : ℕ)
    → scaffold (walls_within d (size g) s) g t ≡ scaffold_of d s g t
scaffold-as d s g t = scaffold-agree (walls_within d (size g) s) (walls d s) g
    (λ u a k. let z = size-lefts g a k in sym (walls-as d (size g) s u a z))
    (λ u b k. let z = size-rights g b k in sym (walls-as d (size g) s u b z)) t

-- the walls, from the options
pub walls-options : (d : Decides) (s t : ℕ) (g : Game) → walls d s t g ≡ walls_by g (d g) s (scaffold_of d s g) t
unfolding walls walls_within
walls-options d s t g = walls_by-agree g (d g) (d g) s (scaffold (walls_within d (size g) s) g) (scaffold_of d s g)
    (scaffold-as d s g) t

pub walls-number : (d : Decides) (s t : ℕ) (g : Game) (x : Number) → Equal (number x) g → walls d s t g ≡
    (let v : Walls = record { left = units s x; right = units s x } in v)
walls-number d s t g x e = walls-options d s t g
    ∙ walls_by-agree g (d g) (inl (x, e)) s (scaffold_of d s g) (scaffold_of d s g) (λ u. refl) t

pub walls-none : (d : Decides) (s t : ℕ) (g : Game) → NoNumber g → walls d s t g ≡ cooled (scaffold_of d s g) t
walls-none d s t g n = walls-options d s t g
    ∙ walls_by-agree g (d g) (inr n) s (scaffold_of d s g) (scaffold_of d s g) (λ u. refl) t

-- ---- steps

scaffold_step : (u : ℕ) (a b c d : ℤ) → a ≤ℤ b → b ≤ℤ (a +ℤ pos 1) → d ≤ℤ c → c ≤ℤ (d +ℤ pos 1)
    → Steps (record { left = a -ℤ pos u; right = c +ℤ pos u })
    (record { left = b -ℤ pos (suc u); right = d +ℤ pos (suc u) })
scaffold_step u a b c d p q r s =
    record {
      left_falls = omega (arith, ints);
      left_by_one = omega (arith, ints);
      right_rises = omega (arith, ints);
      right_by_one = omega (arith, ints);
    }

pub scaffold-steps : (w : ℕ → Game → Walls) (g : Game) → ((t : ℕ) (a : Game) → Steps (w t a) (w (suc t) a)) → (t : ℕ)
    → Steps (scaffold w g t) (scaffold w g (suc t))
scaffold-steps w g h u =
    let l = greatest_up (λ a. (w u a).right) (λ a. (w (suc u) a).right) (lefts g)
    (λ a. let i = h u a in (i.right_rises, i.right_by_one)) in
    let r = least_down (λ b. (w u b).left) (λ b. (w (suc u) b).left) (rights g)
    (λ b. let i = h u b in (i.left_falls, i.left_by_one)) in
    scaffold_step u (greatest (map (λ a. (w u a).right) (lefts g)))
    (greatest (map (λ a. (w (suc u) a).right) (lefts g)))
    (least (map (λ b. (w u b).left) (rights g))) (least (map (λ b. (w (suc u) b).left) (rights g))) l.0 l.1 r.0 r.1

walls_by-steps : (g : Game) (s : ℕ) (f : ℕ → Walls) → ((t : ℕ) → Steps (f t) (f (suc t))) → (t : ℕ) (c : Decided g)
    → Steps (walls_by g c s f t) (walls_by g c s f (suc t))
walls_by-steps g s f h t (inl w) = still (record { left = units s w.0; right = units s w.0 })
walls_by-steps g s f h t (inr never) = cooled-steps f h t

pub walls_within-steps : (d : Decides) (n s t : ℕ) (g : Game)
    → Steps (walls_within d n s t g) (walls_within d n s (suc t) g)
unfolding walls_within
walls_within-steps d zero s t g = still (record { left = pos 0; right = pos 0 })
walls_within-steps d (suc n) s t g = walls_by-steps g s (scaffold (walls_within d n s) g)
    (scaffold-steps (walls_within d n s) g (λ u a. walls_within-steps d n s u a)) t (d g)

pub walls-steps : (d : Decides) (s t : ℕ) (g : Game) → Steps (walls d s t g) (walls d s (suc t) g)
unfolding walls
walls-steps d s t g = walls_within-steps d (suc (size g)) s t g

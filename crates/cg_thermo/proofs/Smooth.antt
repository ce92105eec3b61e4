-- Scales at which the scaffolds of a game and of its positions meet at whole units.
use Rattle.std.proofs.Common.{◌≡◌, ℕ, ◌+◌, ◌<◌, ◌≤◌, arith, zero, suc, inl, inr, ap, sym, ◌∙◌, ◌+ℤ◌, ◌≤ℤ◌}
use Rattle.std.proofs.lemmas.Int.{ints}
use Rattle.cg_dyadic.specs.Units.{units}
use Rattle.cg_dyadic.proofs.Scale.{units-suc}
use Rattle.cg_form.specs.Cooling.{Cool}
use Rattle.cg_form.specs.Game.{Among, Game, lefts, rights}
use Rattle.cg_form.specs.Heights.{height}
use Rattle.cg_form.specs.Simple.{Decided, NoNumber}
use Rattle.cg_form.specs.Size.{size}
use Rattle.cg_form.specs.Walls.{Walls, cooled, scaffold_of, walls}
use Rattle.cg_form.proofs.Decide.{number-decide}
use Rattle.cg_form.proofs.Finer.{Finer, cool, cooled-finer, finer-no_jump, scaffold-finer, twice}
use Rattle.cg_form.proofs.Heights.{height-left, height-right, number-low}
use Rattle.cg_form.proofs.Size.{size-lefts, size-rights}
use Rattle.cg_thermo.proofs.Deciders.{cool-unique}
use Rattle.cg_thermo.specs.Smooths.{Smooth, smooth_number, smooth_other}
use Rattle.cg_form.proofs.Walls.{scaffold-steps, walls-none, walls-number, walls-steps}

-- ---- a scale of at least the height

high_by : (s : ℕ) (g : Game) → height g ≤ s → Decided g → (NoNumber g → (a : Game) → Among a (lefts g) → Smooth s a)
    → (NoNumber g → (b : Game) → Among b (rights g) → Smooth s b) → Smooth s g
high_by s g h (inl w) l r = smooth_number g w.0 w.1 (let e = number-low number-decide g w.0 w.1 in omega arith)
high_by s g h (inr never) l r = smooth_other g never (λ d. cool d s g never h) (l never) (r never)

high_within : (n s : ℕ) (g : Game) → size g < n → height g ≤ s → Smooth s g
high_within zero s g p h = absurd (omega arith)
high_within (suc n) s g p h = high_by s g h (number-decide g)
    (λ never a m. let u = size-lefts g a m in let v = height-left g a never m in high_within n s a (omega arith) (omega arith))
    (λ never b m. let u = size-rights g b m in let v = height-right g b never m in high_within n s b (omega arith) (omega arith))

pub smooth-high : (s : ℕ) (g : Game) → height g ≤ s → Smooth s g
smooth-high s g h = high_within (suc (size g)) s g (omega arith) h

-- ---- the next finer scale

finer_along : (f f' h h' : ℕ → Walls) → ((t : ℕ) → f t ≡ f' t) → ((t : ℕ) → h t ≡ h' t) → Finer f' h' → Finer f h
finer_along f f' h h' p q n = record {
  even_left = λ t. ap (λ (z : Walls). z.left) (q (twice t)) ∙ n.even_left t ∙ ap (λ (z : Walls). z.left +ℤ z.left) (sym (p t));
  even_right = λ t. ap (λ (z : Walls). z.right) (q (twice t)) ∙ n.even_right t ∙ ap (λ (z : Walls). z.right +ℤ z.right) (sym (p t));
  odd_left = λ t. ap (λ (z : Walls). z.left) (q (suc (twice t))) ∙ n.odd_left t ∙ ap (λ (z : Walls). z.left +ℤ (f' (suc t)).left) (sym (p t))
      ∙ ap (λ (z : Walls). (f t).left +ℤ z.left) (sym (p (suc t)));
  odd_right = λ t. ap (λ (z : Walls). z.right) (q (suc (twice t))) ∙ n.odd_right t ∙ ap (λ (z : Walls). z.right +ℤ (f' (suc t)).right) (sym (p t))
      ∙ ap (λ (z : Walls). (f t).right +ℤ z.right) (sym (p (suc t)));
}

-- the scaffolds of a game whose options' walls are finer are finer
pub scaffolds_finer : (s : ℕ) (g : Game)
    → ((a : Game) → Among a (lefts g) → Finer (λ t. walls number-decide s t a) (λ t. walls number-decide (suc s) t a))
    → ((b : Game) → Among b (rights g) → Finer (λ t. walls number-decide s t b) (λ t. walls number-decide (suc s) t b))
    → Finer (scaffold_of number-decide s g) (scaffold_of number-decide (suc s) g)
scaffolds_finer s g l r = scaffold-finer (walls number-decide s) (walls number-decide (suc s)) g (λ t a. walls-steps number-decide s t a) l r

pub smooth-finer : (s : ℕ) (g : Game) → Smooth s g → Finer (λ t. walls number-decide s t g) (λ t. walls number-decide (suc s) t g)
smooth-finer s _ (smooth_number g x e h) =
    let u = units-suc s x h in
    finer_along (λ t. walls number-decide s t g) (λ t. let v : Walls = record { left = units s x; right = units s x } in v)
    (λ t. walls number-decide (suc s) t g) (λ t. let v : Walls = record { left = units (suc s) x; right = units (suc s) x } in v)
    (λ t. walls-number number-decide s t g x e) (λ t. walls-number number-decide (suc s) t g x e)
    (record { even_left = λ t. u; even_right = λ t. u; odd_left = λ t. u; odd_right = λ t. u })
smooth-finer s _ (smooth_other g never c l r) =
    finer_along (λ t. walls number-decide s t g) (cooled (scaffold_of number-decide s g))
    (λ t. walls number-decide (suc s) t g) (cooled (scaffold_of number-decide (suc s) g))
    (λ t. walls-none number-decide s t g never) (λ t. walls-none number-decide (suc s) t g never)
    (cooled-finer (scaffold_of number-decide s g) (scaffold_of number-decide (suc s) g) (c number-decide)
    (scaffolds_finer s g (λ a m. smooth-finer s a (l a m)) (λ b m. smooth-finer s b (r b m))))

-- the scaffolds of a game whose options are smooth cool at the next finer scale, where they start in order
pub cool-next : (s : ℕ) (g : Game) → ((a : Game) → Among a (lefts g) → Smooth s a) → ((b : Game) → Among b (rights g) → Smooth s b)
    → (scaffold_of number-decide s g 0).right ≤ℤ (scaffold_of number-decide s g 0).left → Cool (scaffold_of number-decide (suc s) g)
cool-next s g l r h =
    let n = scaffolds_finer s g (λ a m. smooth-finer s a (l a m)) (λ b m. smooth-finer s b (r b m)) in
    record {
      steps = scaffold-steps (walls number-decide (suc s)) g (λ t a. walls-steps number-decide (suc s) t a);
      start = (let a = n.even_left 0 in let b = n.even_right 0 in omega (arith, ints));
      no_jump = finer-no_jump (scaffold_of number-decide s g) (scaffold_of number-decide (suc s) g) n;
    }

pub smooth-up : (s : ℕ) (g : Game) → Smooth s g → Smooth (suc s) g
smooth-up s _ (smooth_number g x e h) = smooth_number g x e (omega arith)
smooth-up s _ (smooth_other g never c l r) = smooth_other g never (λ d. cool-unique number-decide d (suc s) g (cool-next s g l r (c number-decide).start))
    (λ a m. smooth-up s a (l a m)) (λ b m. smooth-up s b (r b m))

-- ---- the scaffolds start in order

start-down : (m s : ℕ) (g : Game) → ((a : Game) → Among a (lefts g) → Smooth s a) → ((b : Game) → Among b (rights g) → Smooth s b)
    → (scaffold_of number-decide (s + m) g 0).right ≤ℤ (scaffold_of number-decide (s + m) g 0).left
    → (scaffold_of number-decide s g 0).right ≤ℤ (scaffold_of number-decide s g 0).left
start-down zero s g l r h =
    let e : s + 0 ≡ s = omega arith in
    rw (← e) h
start-down (suc m) s g l r h =
    let e : s + suc m ≡ suc s + m = omega arith in
    let k = start-down m (suc s) g (λ a i. smooth-up s a (l a i)) (λ b i. smooth-up s b (r b i)) (rw (← e) h) in
    let n = scaffolds_finer s g (λ a i. smooth-finer s a (l a i)) (λ b i. smooth-finer s b (r b i)) in
    let a = n.even_left 0 in let b = n.even_right 0 in omega (arith, ints)

pub smooth-start : (s : ℕ) (g : Game) → NoNumber g → ((a : Game) → Among a (lefts g) → Smooth s a)
    → ((b : Game) → Among b (rights g) → Smooth s b)
    → (scaffold_of number-decide s g 0).right ≤ℤ (scaffold_of number-decide s g 0).left
smooth-start s g never l r = start-down (height g) s g l r (cool number-decide (s + height g) g never (omega arith)).start

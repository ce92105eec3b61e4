-- What is said of a game at one scale holds at each finer one.
use Rattle.std.proofs.Common.{◌≡◌, refl, ℕ, ◌+◌, ◌≤◌, arith, zero, suc, inl, inr, ap, sym, ◌∙◌, List, pos, negsuc}
use Rattle.cg_dyadic.specs.Number.{Number, exp_of, ratio}
use Rattle.cg_form.specs.Cooling.{Cool}
use Rattle.cg_form.specs.Game.{Game, number}
use Rattle.cg_form.specs.Heights.{height}
use Rattle.cg_form.specs.Order.{Equal}
use Rattle.cg_form.specs.Simple.{Decided, NoNumber}
use Rattle.cg_form.specs.Walls.{IsThermal, TemperatureIs, scaffold_of}
use Rattle.cg_form.proofs.Decide.{number-decide}
use Rattle.cg_form.proofs.Finer.{Finer, twice}
use Rattle.cg_form.proofs.Thermal.{Refines, met-next, met-one, seen-own, seen-same, thermal-by}
use Rattle.cg_thermo.specs.declared.corners.Corner.{Corner}
use Rattle.cg_thermo.specs.Pictures.{left_corners, right_corners}
use Rattle.cg_thermo.specs.Thermal.{MastFrom}
use Rattle.cg_thermo.proofs.Scales.{left-next, right-next}
use Rattle.cg_thermo.specs.Smooths.{Smooth, smooth_number, smooth_other}
use Rattle.cg_thermo.proofs.Smooth.{scaffolds_finer, smooth-finer, smooth-high, smooth-up}

-- ---- scaffolds

cools-at : (s : ℕ) (g : Game) → NoNumber g → Smooth s g → Cool (scaffold_of number-decide s g)
cools-at s _ never (smooth_number g x e h) = absurd (never x e)
cools-at s _ never (smooth_other g n c l r) = c number-decide

finer-at : (s : ℕ) (g : Game) → NoNumber g → Smooth s g
    → Finer (scaffold_of number-decide s g) (scaffold_of number-decide (suc s) g)
finer-at s _ never (smooth_number g x e h) = absurd (never x e)
finer-at s _ never (smooth_other g n c l r) = scaffolds_finer s g (λ a m. smooth-finer s a (l a m)) (λ b m. smooth-finer s b (r b m))

refines : (g : Game) → NoNumber g → Refines (λ s. Smooth s g) (λ s. scaffold_of number-decide s g)
refines g never = record {
  up = λ s h. smooth-up s g h;
  cools = λ s h. cools-at s g never h;
  finer = λ s h. finer-at s g never h;
}

-- what one scale tells is the mean and the temperature
pub thermal-none : (s : ℕ) (g : Game) (end : ℕ) → NoNumber g → Smooth s g → TemperatureIs number-decide s g end
    → IsThermal g (ratio (scaffold_of number-decide s g end).left s) (ratio (pos end) s)
thermal-none s g end never m k = thermal-by number-decide g _ _ never (λ r t h u.
    let same = seen-same (λ z. Smooth z g) (λ z. scaffold_of number-decide z g) (refines g never) s r end t _ _ _ _ m (smooth-high r g h)
    (seen-own (scaffold_of number-decide s g) s end k) (seen-own (scaffold_of number-decide r g) r t u) in
    (same.means, same.temps))

pub thermal-number : (g : Game) (x mean temp : Number) → Equal (number x) g → ((y : Number) → Equal (number y) g → x ≡ y)
    → mean ≡ x → temp ≡ ratio (negsuc 0) (exp_of x) → IsThermal g mean temp
thermal-number g x mean temp e one m t = record {
  number = λ y f. (m ∙ one y f, t ∙ ap (λ z. ratio (negsuc 0) (exp_of z)) (one y f));
  other = λ never. absurd (never x e);
}

-- ---- corners

-- the corners, where the mast begins at this end at the scale s
record Seen (s : ℕ) (g : Game) (end : ℕ) (left right : List Corner) : Type 0 where
  smooth : Smooth s g
  mast : MastFrom number-decide s g end
  left_is : left_corners number-decide s g end ≡ left
  right_is : right_corners number-decide s g end ≡ right

mast-next : (s : ℕ) (g : Game) (end : ℕ) → Decided g → Smooth s g → MastFrom number-decide s g end
    → MastFrom number-decide (suc s) g (twice end)
mast-next s g end (inl w) m k = record {
  number = λ y f. ap twice (k.number y f);
  other = λ never. absurd (never w.0 w.1);
}
mast-next s g end (inr never) m k = record {
  number = λ y f. absurd (never y f);
  other = λ _. met-next (scaffold_of number-decide s g) (scaffold_of number-decide (suc s) g) end (cools-at s g never m)
      (finer-at s g never m) (k.other never);
}

corners-next : (s : ℕ) (g : Game) (end : ℕ) (left right : List Corner) → Seen s g end left right → Seen (suc s) g (twice end) left right
corners-next s g end left right v = record {
  smooth = smooth-up s g v.smooth;
  mast = mast-next s g end (number-decide g) v.smooth v.mast;
  left_is = left-next s g v.smooth end ∙ v.left_is;
  right_is = right-next s g v.smooth end ∙ v.right_is;
}

corners-up : (m s : ℕ) (g : Game) (end : ℕ) (left right : List Corner) → Seen s g end left right
    → (far : ℕ) × Seen (m + s) g far left right
corners-up zero s g end left right v =
    let e : s ≡ 0 + s = omega arith in (end, rw (← e) v)
corners-up (suc m) s g end left right v =
    let (far, w) = corners-up m s g end left right v in
    let e : suc (m + s) ≡ suc m + s = omega arith in
    (twice far, rw (← e) (corners-next (m + s) g far left right w))

-- at one scale, one end
mast-one : (s : ℕ) (g : Game) (e f : ℕ) → Decided g → MastFrom number-decide s g e → MastFrom number-decide s g f → e ≡ f
mast-one s g e f (inl w) a b = a.number w.0 w.1 ∙ sym (b.number w.0 w.1)
mast-one s g e f (inr never) a b = met-one (scaffold_of number-decide s g) e f (a.other never) (b.other never)

-- at a scale at which the game is smooth, and at each of at least the height, there are the same corners
pub corners-same : (s r : ℕ) (g : Game) (end t : ℕ) → Smooth s g → MastFrom number-decide s g end → height g ≤ r
    → MastFrom number-decide r g t
    → (left_corners number-decide s g end ≡ left_corners number-decide r g t) × (right_corners number-decide s g end ≡ right_corners number-decide r g t)
corners-same s r g end t m k h j =
    let (x, a) = corners-up r s g end _ _ (record { smooth = m; mast = k; left_is = refl; right_is = refl }) in
    let (y, b) = corners-up s r g t _ _ (record { smooth = smooth-high r g h; mast = j; left_is = refl; right_is = refl }) in
    let e : s + r ≡ r + s = omega arith in
    let c = rw e at b in
    let i = mast-one (r + s) g x y (number-decide g) a.mast c.mast in (
      sym a.left_is ∙ ap (left_corners number-decide (r + s) g) i ∙ c.left_is,
      sym a.right_is ∙ ap (right_corners number-decide (r + s) g) i ∙ c.right_is,
    )

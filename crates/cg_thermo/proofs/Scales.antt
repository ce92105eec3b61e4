-- Corners are the same at each finer scale.
use Rattle.std.proofs.Common.{◌≡◌, refl, ℕ, arith, zero, suc, ap, ◌∙◌, Bool, true, false, cond, List, [], ◌∷◌, map, ℤ, pos, ◌+ℤ◌, ◌-ℤ◌}
use Rattle.std.proofs.lemmas.Int.{ints}
use Rattle.std.proofs.lemmas.Bool.Decides.{Decides-int_eq}
use Rattle.std.specs.Ordering.{int_eq}
use Rattle.cg_dyadic.specs.Number.{ratio}
use Rattle.cg_dyadic.proofs.Fractions.{ratio-double}
use Rattle.cg_form.specs.Game.{Game}
use Rattle.cg_form.specs.Walls.{walls}
use Rattle.cg_form.proofs.Decide.{number-decide}
use Rattle.cg_form.proofs.Finer.{twice, twice_pos}
use Rattle.cg_walls.specs.Corners.{corners, point, straight, turns}
use Rattle.cg_walls.specs.declared.bends.Point.{Point}
use Rattle.cg_thermo.specs.declared.corners.Corner.{Corner}
use Rattle.cg_thermo.specs.Pictures.{left_corners, right_corners, spot}
use Rattle.cg_thermo.specs.Smooths.{Smooth}
use Rattle.cg_thermo.proofs.Smooth.{smooth-finer}

-- ---- corners of finer functions

-- h has the values of f at half of its times, and those halfway between in between
pub record Doubles (f h : ℕ → ℤ) : Type 0 where
  pub even : (t : ℕ) → h (twice t) ≡ f t +ℤ f t
  pub odd : (t : ℕ) → h (suc (twice t)) ≡ f t +ℤ f (suc t)

abbrev double : Point → Point
double p = record { value = p.value +ℤ p.value; at = twice p.at }

halfway : (f h : ℕ → ℤ) → Doubles f h → (t : ℕ) → straight h (twice t) ≡ true
halfway f h d t =
    let a = d.even t in let b = d.odd t in let c = d.even (suc t) in
    (Decides-int_eq (h (suc (suc (twice t))) -ℤ h (suc (twice t))) (h (suc (twice t)) -ℤ h (twice t))).1 (omega (arith, ints))

bend_kept : (f h : ℕ → ℤ) → Doubles f h → (t : ℕ) → straight h (suc (twice t)) ≡ straight f t
bend_kept f h d t =
    let b = d.odd t in let c = d.even (suc t) in let e = d.odd (suc t) in
    let x : h (suc (suc (suc (twice t)))) -ℤ h (suc (suc (twice t))) ≡ f (suc (suc t)) -ℤ f (suc t) = omega (arith, ints) in
    let y : h (suc (suc (twice t))) -ℤ h (suc (twice t)) ≡ f (suc t) -ℤ f t = omega (arith, ints) in
    ap (λ z. int_eq z (h (suc (suc (twice t))) -ℤ h (suc (twice t)))) x ∙ ap (int_eq (f (suc (suc t)) -ℤ f (suc t))) y

point-double : (f h : ℕ → ℤ) → Doubles f h → (t : ℕ) → point h (twice t) ≡ double (point f t)
point-double f h d t = ap (λ z. let x : Point = record { value = z; at = twice t } in x) (d.even t)

turns-double : (f h : ℕ → ℤ) → Doubles f h → (n t : ℕ) → turns h (twice t) (suc (twice n)) ≡ map double (turns f t n)
turns-double f h d zero t =
    ap (λ b. cond b (turns h (suc (twice t)) 0) (point h (suc (twice t)) ∷ turns h (suc (twice t)) 0)) (halfway f h d t)
    ∙ ap (λ z. z ∷ []) (point-double f h d (suc t))
turns-double f h d (suc n) t =
    ap (λ b. cond b (turns h (suc (twice t)) (twice (suc n))) (point h (suc (twice t)) ∷ turns h (suc (twice t)) (twice (suc n)))) (halfway f h d t)
    ∙ ap (λ b. cond b (turns h (twice (suc t)) (suc (twice n))) (point h (twice (suc t)) ∷ turns h (twice (suc t)) (suc (twice n)))) (bend_kept f h d t)
    ∙ ap (λ z. cond (straight f t) z (point h (twice (suc t)) ∷ z)) (turns-double f h d n (suc t))
    ∙ ap (λ z. cond (straight f t) (map double (turns f (suc t) n)) (z ∷ map double (turns f (suc t) n))) (point-double f h d (suc t))
    ∙ out (straight f t) (turns f (suc t) n) (point f (suc t))
  where
    out : (b : Bool) (ps : List Point) (p : Point) → cond b (map double ps) (double p ∷ map double ps) ≡ map double (cond b ps (p ∷ ps))
    out true ps p = refl
    out false ps p = refl

pub corners-double : (f h : ℕ → ℤ) → Doubles f h → (e : ℕ) → corners h (twice e) ≡ map double (corners f e)
corners-double f h d zero = ap (λ z. z ∷ []) (point-double f h d 0)
corners-double f h d (suc n) = ap (λ z. z ∷ turns h 0 (suc (twice n))) (point-double f h d 0)
    ∙ ap (λ z. double (point f 0) ∷ z) (turns-double f h d n 0)

spot-double : (s : ℕ) (p : Point) → spot (suc s) (double p) ≡ spot s p
spot-double s p = ap (λ z. let x : Corner = record { value = z; at = ratio (pos (twice p.at)) (suc s) } in x) (ratio-double p.value s)
    ∙ ap (λ z. let x : Corner = record { value = ratio p.value s; at = z } in x)
    (ap (λ z. ratio z (suc s)) (twice_pos p.at) ∙ ratio-double (pos p.at) s)

spots-double : (s : ℕ) (ps : List Point) → map (spot (suc s)) (map double ps) ≡ map (spot s) ps
spots-double s [] = refl
spots-double s (p ∷ ps) = ap (λ z. z ∷ map (spot (suc s)) (map double ps)) (spot-double s p) ∙ ap (λ z. spot s p ∷ z) (spots-double s ps)

pub left-next : (s : ℕ) (g : Game) → Smooth s g → (e : ℕ) → left_corners number-decide (suc s) g (twice e) ≡ left_corners number-decide s g e
unfolding left_corners
left-next s g m e =
    let n = smooth-finer s g m in
    ap (map (spot (suc s))) (corners-double (λ t. (walls number-decide s t g).left) (λ t. (walls number-decide (suc s) t g).left)
    (record { even = n.even_left; odd = n.odd_left }) e)
    ∙ spots-double s (corners (λ t. (walls number-decide s t g).left) e)

pub right-next : (s : ℕ) (g : Game) → Smooth s g → (e : ℕ) → right_corners number-decide (suc s) g (twice e) ≡ right_corners number-decide s g e
unfolding right_corners
right-next s g m e =
    let n = smooth-finer s g m in
    ap (map (spot (suc s))) (corners-double (λ t. (walls number-decide s t g).right) (λ t. (walls number-decide (suc s) t g).right)
    (record { even = n.even_right; odd = n.odd_right }) e)
    ∙ spots-double s (corners (λ t. (walls number-decide s t g).right) e)

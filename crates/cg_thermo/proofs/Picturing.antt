-- What is drawn of a pair of walls is the thermograph.
use Rattle.std.proofs.Common.{◌≡◌, refl, ℕ, ◌<◌, ◌≤◌, arith, zero, suc, ◌⊎◌, inl, inr, ap, sym, ◌∙◌, Bool, true, false, cond}
use Rattle.std.proofs.Common.{List, [], ◌∷◌, map, length, get_or, unsigned_abs, ◌^◌, ℤ, pos, negsuc, neg_ℤ, ◌-ℤ◌, ◌≤ℤ◌}
use Rattle.std.proofs.lemmas.Int.{ints}
use Rattle.std.proofs.lemmas.Bool.Decides.{Decides-int_eq, Decides-like, same_from_decides}
use Rattle.std.specs.Ordering.{int_eq}
use mir.Syntax.{w128}
use mir.Val.{to_z, of_z}
use Rattle.cg_dyadic.specs.Number.{InRange, IsFraction, Number, exp_of, num_of, ratio}
use Rattle.cg_dyadic.specs.Units.{units}
use Rattle.cg_dyadic.specs.Wide.{places}
use Rattle.cg_dyadic.proofs.Fractions.{fraction-ratio, fraction-unique, ratio-lowest}
use Rattle.cg_dyadic.proofs.Scale.{exp-ratio}
use Rattle.cg_dyadic.proofs.Wides.{ratio-units}
use Rattle.cg_form.specs.Canonical.{Canonical}
use Rattle.cg_form.specs.Game.{Among, Game, number, options}
use Rattle.cg_form.specs.Heights.{height}
use Rattle.cg_form.specs.Order.{Equal}
use Rattle.cg_form.specs.Simple.{Decided, NoNumber}
use Rattle.cg_form.specs.Walls.{IsThermal, Walls, scaffold_of, walls}
use Rattle.cg_form.proofs.Cooled.{uncrossed}
use Rattle.cg_form.proofs.Decide.{number-decide}
use Rattle.cg_form.proofs.Preorder.{equal_refl}
use Rattle.cg_form.proofs.Simplicity.{one_number}
use Rattle.cg_form.proofs.Temperature.{scaffolds_agree, temperature-there}
use Rattle.cg_form.proofs.Walls.{walls-none, walls-number}
use Rattle.cg_walls.specs.declared.TheConstants.{BOUND}
use Rattle.cg_walls.specs.declared.bends.Point.{Point}
use Rattle.cg_walls.specs.declared.rise.Rise.{Rise}
use Rattle.cg_walls.specs.Corners.{corners, point, straight, turns}
use Rattle.cg_walls.specs.Fits.{AllFit, PointFits}
use Rattle.cg_walls.specs.Rises.{IsWall, value_at}
use Rattle.cg_walls.proofs.Rising.{near}
use Rattle.cg_walls.proofs.Words.{word}
use Rattle.cg_nodes.specs.Games.{IsNode}
use Rattle.cg_form.specs.Positions.{positions_of}
use Rattle.cg_thermo.specs.declared.wall_pair.WallPair.{WallPair}
use Rattle.cg_thermo.specs.declared.corners.Corner.{Corner}
use Rattle.cg_thermo.specs.declared.thermo.Walls as drawn
use Rattle.cg_thermo.specs.Draws.{Draws}
use Rattle.cg_thermo.specs.Pictures.{left_corners, right_corners, spot}
use Rattle.cg_thermo.specs.Progress.{HasWallPair}
use Rattle.cg_thermo.specs.Signed.{Pictured, corner_at}
use Rattle.cg_thermo.specs.Smooths.{Smooth, smooth_number, smooth_other}
use Rattle.cg_thermo.specs.Thermal.{NeedsMore}
use Rattle.cg_thermo.specs.Thermographs.{IsThermograph}
use Rattle.cg_thermo.proofs.Deciders.{left-unique, mast-unique, right-unique}
use Rattle.cg_thermo.proofs.HighestSteps.{canonical-node}
use Rattle.cg_thermo.proofs.Upward.{corners-same, thermal-none, thermal-number}

-- ---- small facts for the code

pub minus_one : (k : ℕ) (x : Number) → IsFraction (negsuc 0) k x → x ≡ ratio (negsuc 0) k
minus_one k x f = fraction-unique (negsuc 0) k x (ratio (negsuc 0) k) f (fraction-ratio (negsuc 0) k)

pub minus_in_range : (k : ℕ) (x : Number) → IsFraction (negsuc 0) k x → k ≤ 40 → InRange x
minus_in_range k x f h =
    let e = minus_one k x f in
    let l = ratio-lowest (negsuc 0) k (inr refl) in
    let n : num_of x ≡ negsuc 0 = ap num_of e ∙ l.0 in
    let d : exp_of x ≡ k = ap exp_of e ∙ l.1 in
    let s : unsigned_abs (num_of x) ≡ 1 = ap unsigned_abs n in
    record { small = omega arith; short = omega arith }

pub fits_at : (ps : List Point) (i : ℕ) (d : Point) → i < length ps → AllFit ps → PointFits (get_or ps i d)
fits_at [] i d h a = absurd (omega arith)
fits_at (p ∷ ps) zero d h a = a.0
fits_at (p ∷ ps) (suc i) d h a = fits_at ps i d (omega arith) a.1

small_abs : (n : ℤ) → neg_ℤ BOUND ≤ℤ n → n ≤ℤ BOUND → unsigned_abs n < 2 ^ 126
small_abs n h k = let s = size n h k in omega arith
  where
    size : (n : ℤ) → neg_ℤ (pos 21267647932558653966460912964485513216) ≤ℤ n → n ≤ℤ pos 21267647932558653966460912964485513216
        → unsigned_abs n ≤ 21267647932558653966460912964485513216
    size n h k = grind (arith, ints)

pub value_small : (r : Rise) (t : ℕ) (v : ℤ) → IsWall r → v ≡ value_at r t → unsigned_abs (to_z w128 (of_z w128 v)) < 2 ^ 126
value_small r t v w e =
    let n = (near r t).above in let l = w.low in let h = w.high t in
    rw (word v (omega (arith, ints)) (omega (arith, ints))) (small_abs v (omega (arith, ints)) (omega (arith, ints)))

-- ---- corners of two functions that bend together

map-turns : (F G : Point → Corner) (f h : ℕ → ℤ) → ((t : ℕ) → F (point f t) ≡ G (point h t)) → ((t : ℕ) → straight f t ≡ straight h t)
    → (n t : ℕ) → map F (turns f t n) ≡ map G (turns h t n)
map-turns F G f h p b zero t = ap (λ z. z ∷ []) (p (suc t))
map-turns F G f h p b (suc n) t =
    out (straight f t) (turns f (suc t) n) (point f (suc t)) F
    ∙ ap (λ z. cond z (map F (turns f (suc t) n)) (F (point f (suc t)) ∷ map F (turns f (suc t) n))) (b t)
    ∙ ap (λ z. cond (straight h t) z (F (point f (suc t)) ∷ z)) (map-turns F G f h p b n (suc t))
    ∙ ap (λ z. cond (straight h t) (map G (turns h (suc t) n)) (z ∷ map G (turns h (suc t) n))) (p (suc t))
    ∙ sym (out (straight h t) (turns h (suc t) n) (point h (suc t)) G)
  where
    out : (c : Bool) (ps : List Point) (q : Point) (K : Point → Corner) → map K (cond c ps (q ∷ ps)) ≡ cond c (map K ps) (K q ∷ map K ps)
    out true ps q K = refl
    out false ps q K = refl

map-corners : (F G : Point → Corner) (f h : ℕ → ℤ) → ((t : ℕ) → F (point f t) ≡ G (point h t)) → ((t : ℕ) → straight f t ≡ straight h t)
    → (e : ℕ) → map F (corners f e) ≡ map G (corners h e)
map-corners F G f h p b zero = ap (λ z. z ∷ []) (p 0)
map-corners F G f h p b (suc n) = ap (λ z. z ∷ map F (turns f 0 n)) (p 0) ∙ ap (λ z. G (point h 0) ∷ z) (map-turns F G f h p b n 0)

straight-same : (f h : ℕ → ℤ) → ((t : ℕ) → f t ≡ h t) → (t : ℕ) → straight f t ≡ straight h t
straight-same f h e t =
    ap (λ z. int_eq (z -ℤ f (suc t)) (f (suc t) -ℤ f t)) (e (suc (suc t)))
    ∙ ap (λ z. int_eq (h (suc (suc t)) -ℤ z) (z -ℤ f t)) (e (suc t))
    ∙ ap (λ z. int_eq (h (suc (suc t)) -ℤ h (suc t)) (h (suc t) -ℤ z)) (e t)

straight-negated : (f h : ℕ → ℤ) → ((t : ℕ) → f t ≡ neg_ℤ (h t)) → (t : ℕ) → straight f t ≡ straight h t
straight-negated f h e t =
    let x = e t in let y = e (suc t) in let z = e (suc (suc t)) in
    turn (f (suc (suc t)) -ℤ f (suc t)) (f (suc t) -ℤ f t) (h (suc (suc t)) -ℤ h (suc t)) (h (suc t) -ℤ h t) (omega (arith, ints)) (omega (arith, ints))
  where
    there : (a b c d : ℤ) → a ≡ neg_ℤ c → b ≡ neg_ℤ d → a ≡ b → c ≡ d
    there a b c d p q e = omega (arith, ints)

    back : (a b c d : ℤ) → a ≡ neg_ℤ c → b ≡ neg_ℤ d → c ≡ d → a ≡ b
    back a b c d p q e = omega (arith, ints)

    turn : (a b c d : ℤ) → a ≡ neg_ℤ c → b ≡ neg_ℤ d → int_eq a b ≡ int_eq c d
    turn a b c d p q = same_from_decides (int_eq a b) (int_eq c d)
        (Decides-like (int_eq a b) (there a b c d p q) (back a b c d p q) (Decides-int_eq a b)) (Decides-int_eq c d)

neg_back : (v h : ℤ) → v ≡ neg_ℤ h → neg_ℤ v ≡ h
neg_back v h e = omega (arith, ints)

left-corners : (g : Game) (c : WallPair) → Draws g c → map (corner_at true) (corners (value_at c.left) c.end) ≡ left_corners number-decide places g c.end
unfolding left_corners
left-corners g c d = map-corners (corner_at true) (spot places) (value_at c.left) (λ t. (walls number-decide places t g).left)
    (λ t. ap (λ z. let x : Corner = record { value = ratio z places; at = ratio (pos t) places } in x)
    (neg_back (value_at c.left t) (walls number-decide places t g).left (d.left number-decide t)))
    (straight-negated (value_at c.left) (λ t. (walls number-decide places t g).left) (d.left number-decide)) c.end

right-corners : (g : Game) (c : WallPair) → Draws g c → map (corner_at false) (corners (value_at c.right) c.end) ≡ right_corners number-decide places g c.end
unfolding right_corners
right-corners g c d = map-corners (corner_at false) (spot places) (value_at c.right) (λ t. (walls number-decide places t g).right)
    (λ t. ap (λ z. let x : Corner = record { value = ratio z places; at = ratio (pos t) places } in x) (d.right number-decide t))
    (straight-same (value_at c.right) (λ t. (walls number-decide places t g).right) (d.right number-decide)) c.end

-- ---- the mean and the temperature

smooth-places : (s : ℕ) (g : Game) (x : Number) → Smooth s g → Equal (number x) g → exp_of x ≤ s
smooth-places s _ x (smooth_number g y e h) f = let i = ap exp_of (one_number x y g f e) in omega arith
smooth-places s _ x (smooth_other g never c l r) f = absurd (never x f)

end-value : (g : Game) (c : WallPair) → Draws g c → NoNumber g
    → value_at c.right c.end ≡ (scaffold_of number-decide places g c.end).left
end-value g c d never =
    let t = (d.mast number-decide).other never in
    let a = t.agree in
    let f : ℕ → Walls = scaffold_of number-decide places g in
    let w = ap (λ (z : Walls). z.right) (walls-none number-decide places c.end g never ∙ uncrossed f c.end (omega (arith, ints))) in
    d.right number-decide c.end ∙ w ∙ sym a

record Temps (g : Game) (end : ℕ) (temp : Number) : Type 0 where
  number : (x : Number) → g ≡ number x → temp ≡ ratio (negsuc 0) (exp_of x)
  other : IsNode g → temp ≡ ratio (pos end) places

thermal_by : (g : Game) (c : WallPair) (mean temp : Number) → Decided g → HasWallPair g c → Canonical g → mean ≡ ratio (value_at c.right c.end) places
    → Temps g c.end temp → IsThermal g mean temp
thermal_by (number y) c mean temp d k can m t =
    let e = equal_refl (number y) in
    let z = (k.draws.mast number-decide).number y e in
    let v : value_at c.right c.end ≡ units places y = k.draws.right number-decide c.end
    ∙ ap (λ (w : Walls). w.right) (walls-number number-decide places c.end (number y) y e) in
    thermal-number (number y) y mean temp e (λ x f. one_number y x (number y) e f)
    (m ∙ ap (λ n. ratio n places) v ∙ ratio-units places y (smooth-places places (number y) y k.smooth e)) (t.number y refl)
thermal_by (options ls rs) c mean temp d k can m t =
    let g : Game = options ls rs in
    let never = canonical-node (options ls rs) can tt in
    let i = thermal-none places (options ls rs) c.end never k.smooth ((k.draws.mast number-decide).other never) in
    rw (m ∙ ap (λ n. ratio n places) (end-value (options ls rs) c k.draws never)) (rw (t.other tt) i)

pub is_thermograph : (g : Game) (c : WallPair) (w : drawn.Walls) (temp : Number) → HasWallPair g c → Canonical g → Pictured c w → w.temp ≡ temp
    → ((x : Number) → g ≡ number x → temp ≡ ratio (negsuc 0) (exp_of x)) → (IsNode g → temp ≡ ratio (pos c.end) places) → IsThermograph g w
is_thermograph g c w temp k can p e num oth = record {
  thermal = thermal_by g c w.mean w.temp (number-decide g) k can p.mean (record { number = λ x f. e ∙ num x f; other = λ n. e ∙ oth n });
  left = λ d r end h m. p.left ∙ left-corners g c k.draws
      ∙ (corners-same places r g c.end end k.smooth (k.draws.mast number-decide) h (mast-unique d number-decide r g end m)).0
      ∙ left-unique number-decide d r g end;
  right = λ d r end h m. p.right ∙ right-corners g c k.draws
      ∙ (corners-same places r g c.end end k.smooth (k.draws.mast number-decide) h (mast-unique d number-decide r g end m)).1
      ∙ right-unique number-decide d r g end;
}

-- ---- no position needs more places

enough_by : (g : Game) (c : WallPair) (mean temp : Number) → Decided g → HasWallPair g c → IsThermal g mean temp
    → (places < exp_of mean) ⊎ (places < exp_of temp) → ⊥
enough_by g c mean temp (inl w) k t more =
    let x = t.number w.0 w.1 in
    let h = smooth-places places g w.0 k.smooth w.1 in
    let a = ap exp_of x.0 in let b = ap exp_of x.1 in
    let r = exp-ratio (negsuc 0) (exp_of w.0) in
    elim more [ inl i ↦ omega arith | inr i ↦ omega arith ]
enough_by g c mean temp (inr never) k t more =
    let i = thermal-none places g c.end never k.smooth ((k.draws.mast number-decide).other never) in
    let (u, v) = temperature-there number-decide (height g) g (scaffolds_agree number-decide (height g) g never (omega arith)) in
    let x = t.other never number-decide (height g) u (omega arith) v in
    let y = i.other never number-decide (height g) u (omega arith) v in
    let a = ap exp_of (x.0 ∙ sym y.0) in let b = ap exp_of (x.1 ∙ sym y.1) in
    let p = exp-ratio (scaffold_of number-decide places g c.end).left places in
    let q = exp-ratio (pos c.end) places in
    elim more [ inl j ↦ omega arith | inr j ↦ omega arith ]

pub enough_places : (g : Game) → ((p : Game) → Among p (positions_of g) → (c : WallPair) × HasWallPair p c) → ¬ NeedsMore places g
enough_places g all n = let (c, k) = all n.position n.among in
    enough_by n.position c n.mean n.temp (number-decide n.position) k n.thermal n.more

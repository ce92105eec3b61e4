-- The line of corners, one corner after the other.
use Rattle.std.proofs.Common.{◌≡◌, refl, ℕ, zero, suc, ◌⊎◌, inl, inr, [], ◌++◌, append_assoc, pos, ◌+◌, ◌<◌, ◌≤◌, ◌^◌, arith, ap, sym, ◌∙◌}
use Rattle.std.proofs.Common.{subst, true, false, cond, Option, Some, None, List, ◌∷◌, drop, get_or, length, unsigned_abs, ℤ, ◌-ℤ◌, ◌≤ℤ◌, ◌<ℤ◌}
use Rattle.std.proofs.lemmas.Int.{fits_signed_from_abs, ints, to_z-of_z}
use Rattle.std.proofs.Math.Seq.{drop-cons}
use Rattle.std.specs.Prelude.{IfSome, IfNone, if◌then◌else◌}
use Rattle.cg_walls.specs.Lines.{Mark}
use lib.Signed.{le_z, lt_z}
use mir.Syntax.{w128}
use mir.Val.{to_z, of_z}
use Rattle.cg_dyadic.proofs.Integers.{abs_tells}
use Rattle.cg_dyadic.specs.Number.{Number, ratio}
use Rattle.cg_dyadic.specs.Units.{units}
use Rattle.cg_dyadic.specs.Wide.{InWide, places}
use Rattle.cg_dyadic.proofs.Wides.{word-wide}
use Rattle.cg_thermo.specs.declared.corners.Corner.{Corner}
use Rattle.cg_walls.specs.Lines.{OnLine, RiseAfter, TimesRise, before_all, further}
use Rattle.cg_walls.proofs.Lines.{after-rise, further-none, on-since, one-on}
use Rattle.cg_thermo.specs.WallLine.{mark_at, marks_at}

-- ---- the line, one corner after the other

-- in units of 1 / 2 ^ s, where the last corner so far has this value at this time
abbrev pub line_from : ℕ → ℤ → ℤ → List Corner → ℤ → ℤ
line_from s v f [] t = v
line_from s v f (d ∷ ds) t = if le_z (units s d.at) t then line_from s (units s d.value) (units s d.at) ds t
    else further v (units s d.value) (t -ℤ f)

-- the first corner counts as its own predecessor
abbrev pub line_at : ℕ → List Corner → ℤ → ℤ
line_at s [] t = pos 0
line_at s (c ∷ cs) t = line_from s (units s c.value) (units s c.at) (c ∷ cs) t

le_tells : (a b : ℤ) → ((le_z a b ≡ true) × (a ≤ℤ b)) ⊎ ((le_z a b ≡ false) × (b <ℤ a))
le_tells a b = grind (arith, ints)

line_from-on : (s : ℕ) (front : List Mark) (c : Corner) (ds : List Corner) (t : ℤ) → units s c.at ≤ℤ t → RiseAfter (units s c.at) (marks_at s ds)
    → OnLine (front ++ (mark_at s c ∷ marks_at s ds)) t (line_from s (units s c.value) (units s c.at) ds t)
line_from-on s front c [] t h r = on-since front (mark_at s c) [] t h tt
line_from-on s front c (d ∷ ds) t h r = elim (le_tells (units s d.at) t) [
  | inl p ↦ (rw p.0 (rw (← (append_assoc front (mark_at s c ∷ []) (mark_at s d ∷ marks_at s ds)))
      (line_from-on s (front ++ (mark_at s c ∷ [])) d ds t p.1 r.1)))
  | inr p ↦ (let lt = p.1 in
      let le : t ≤ℤ units s d.at = omega (arith, ints) in
      rw p.0 (on-since front (mark_at s c) (marks_at s (d ∷ ds)) t h (lt, after-rise t (units s d.at) (marks_at s ds) le r.1)))
]

line_at-on : (s : ℕ) (cs : List Corner) (t : ℤ) → ¬ (cs ≡ []) → TimesRise (marks_at s cs) → OnLine (marks_at s cs) t (line_at s cs t)
line_at-on s [] t some r = absurd (some refl)
line_at-on s (c ∷ cs) t some r = elim (le_tells (units s c.at) t) [
  | inl p ↦ (rw p.0 (line_from-on s [] c cs t p.1 r))
  | inr p ↦ (let lt = p.1 in
      let le : t ≤ℤ units s c.at = omega (arith, ints) in
      rw p.0 (before_all (mark_at s c) (marks_at s cs) refl (lt, after-rise t (units s c.at) (marks_at s cs) le r)
      (further-none (units s c.value) (units s c.value) (t -ℤ units s c.at) refl)))
]

pub some_line : (r : Option Number) (cs : List Corner) (t v : ℤ) → ¬ (cs ≡ []) → TimesRise (marks_at places cs) → v ≡ line_at places cs t
    → IfSome r (λ x. units places x ≡ v) → IfSome r (λ x. OnLine (marks_at places cs) t (units places x))
some_line None cs t v some r e h = tt
some_line (Some x) cs t v some r e h = subst (OnLine (marks_at places cs) t) (sym (h ∙ e)) (line_at-on places cs t some r)

pub none_line : (r : Option Number) (cs : List Corner) (t v : ℤ) → ¬ (cs ≡ []) → TimesRise (marks_at places cs) → v ≡ line_at places cs t
    → IfNone r (2 ^ 126 ≤ unsigned_abs v) → IfNone r ((n : ℤ) → OnLine (marks_at places cs) t n → 2 ^ 126 ≤ unsigned_abs n)
none_line (Some x) cs t v some r e h = tt
none_line None cs t v some r e h = λ n o.
    subst (λ (z : ℤ). 2 ^ 126 ≤ unsigned_abs z) (e ∙ one-on (marks_at places cs) t (line_at places cs t) n (line_at-on places cs t some r) o) h

-- ---- the loop

pub small_word : (n : ℤ) → unsigned_abs n < 2 ^ 126 → to_z w128 (of_z w128 n) ≡ n
small_word n h = to_z-of_z w128 n (fits_signed_from_abs w128 n (omega arith))

line-next : (cs : List Corner) (i : ℕ) (v f t : ℤ) (d : Corner) → i < length cs → d ≡ get_or cs i d
    → line_from places v f (drop i cs) t ≡ cond (le_z (units places d.at) t) (line_from places (units places d.value) (units places d.at) (drop (i + 1) cs) t)
    (further v (units places d.value) (t -ℤ f))
line-next cs i v f t d h e =
    let o : suc i ≡ i + 1 = omega arith in
    ap (λ z. line_from places v f z t) (drop-cons cs i d h ∙ ap (λ z. z ∷ drop (suc i) cs) (sym e) ∙ ap (λ n. d ∷ drop n cs) o)

le_true : (a b : ℤ) → a ≤ℤ b → le_z a b ≡ true
le_true a b h = grind (arith, ints)

le_false : (a b : ℤ) → b <ℤ a → le_z a b ≡ false
le_false a b h = grind (arith, ints)

from_not : (a t : ℤ) → lt_z t a ≡ false → a ≤ℤ t
from_not a t h = grind (arith, ints)

from_lt : (t a : ℤ) → lt_z t a ≡ true → t <ℤ a
from_lt t a h = grind (arith, ints)

le_along : (a b c d : ℤ) → a ≡ b → c ≡ d → b ≤ℤ d → a ≤ℤ c
le_along a b c d e f h = omega (arith, ints)

lt_along : (a b c d : ℤ) → a ≡ b → c ≡ d → b <ℤ d → a <ℤ c
lt_along a b c d e f h = omega (arith, ints)

pub wall-next : (cs : List Corner) (i : ℕ) (v f t nv na w : ℤ) (d : Corner) → i < length cs → d ≡ get_or cs i d → nv ≡ units places d.value
    → na ≡ units places d.at → lt_z t na ≡ false → line_from places v f (drop i cs) t ≡ w → line_from places nv na (drop (i + 1) cs) t ≡ w
wall-next cs i v f t nv na w d h e p q le k =
    let l = line-next cs i v f t d h e in
    let b = le_true (units places d.at) t (le_along (units places d.at) na t t (sym q) refl (from_not na t le)) in
    ap (λ z. line_from places z na (drop (i + 1) cs) t) p ∙ ap (λ z. line_from places (units places d.value) z (drop (i + 1) cs) t) q
    ∙ sym (ap (λ z. cond z (line_from places (units places d.value) (units places d.at) (drop (i + 1) cs) t) (further v (units places d.value) (t -ℤ f))) b)
    ∙ sym l ∙ k

pub wall-ends : (cs : List Corner) (i : ℕ) (v f t nv na w : ℤ) (d : Corner) → i < length cs → d ≡ get_or cs i d → nv ≡ units places d.value
    → na ≡ units places d.at → lt_z t na ≡ true → line_from places v f (drop i cs) t ≡ w → further v nv (t -ℤ f) ≡ w
wall-ends cs i v f t nv na w d h e p q lt k =
    let l = line-next cs i v f t d h e in
    let b = le_false (units places d.at) t (lt_along t t (units places d.at) na refl (sym q) (from_lt t na lt)) in
    ap (λ z. further v z (t -ℤ f)) p
    ∙ sym (ap (λ z. cond z (line_from places (units places d.value) (units places d.at) (drop (i + 1) cs) t) (further v (units places d.value) (t -ℤ f))) b)
    ∙ sym l ∙ k

pub wall-last : (cs : List Corner) (i : ℕ) (v f t w : ℤ) → length cs ≤ i → line_from places v f (drop i cs) t ≡ w → v ≡ w
wall-last cs i v f t w h k = ap (λ z. line_from places v f z t) (sym (none cs i h)) ∙ k
  where
    none : (cs : List Corner) (i : ℕ) → length cs ≤ i → drop i cs ≡ []
    none [] zero h = refl
    none [] (suc i) h = refl
    none (c ∷ cs) zero h = absurd (omega arith)
    none (c ∷ cs) (suc i) h = none cs i (omega arith)

pub small_along : (n m : ℤ) → n ≡ m → unsigned_abs m < 2 ^ 126 → unsigned_abs n < 2 ^ 126
small_along n m e h = rw e h

pub diff_word : (a b : ℤ) → unsigned_abs a < 2 ^ 126 → unsigned_abs b < 2 ^ 126 → to_z w128 (of_z w128 (a -ℤ b)) ≡ a -ℤ b
diff_word a b h k = to_z-of_z w128 (a -ℤ b) (fits_signed_from_abs w128 (a -ℤ b) (let d = size a b in omega arith))
  where
    size : (a b : ℤ) → unsigned_abs (a -ℤ b) ≤ unsigned_abs a + unsigned_abs b
    size a b = let x = abs_tells a in let y = abs_tells b in let z = abs_tells (a -ℤ b) in omega (arith, ints)

pub wide_along : (x : Number) (m n : ℤ) → x ≡ ratio m places → m ≡ n → unsigned_abs n < 2 ^ 126 → InWide x
wide_along x m n e f h =
    rw (e ∙ ap (λ z. ratio z places) f) (word-wide n h)

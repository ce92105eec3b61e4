-- The line of corners at one scale and at another.
use Rattle.std.proofs.Common.{◌≡◌, refl, ℕ, ◌+◌, ◌≤◌, ◌^◌, arith, zero, suc, ap, sym, ◌∙◌, subst, Bool}
use Rattle.std.proofs.Common.{Option, Some, None, List, [], ◌∷◌, map, unsigned_abs, ℤ, pos, ◌+ℤ◌, ◌<ℤ◌}
use Rattle.std.specs.Prelude.{IfSome, IfNone}
use Rattle.cg_dyadic.specs.Number.{Number, exp_of, ratio}
use Rattle.cg_dyadic.specs.Units.{units}
use Rattle.cg_dyadic.specs.Wide.{InWide, places}
use Rattle.cg_dyadic.proofs.Scale.{exp-ratio, units-ratio, units-suc}
use Rattle.cg_dyadic.proofs.Wides.{wide-word}
use Rattle.cg_walls.specs.Corners.{marks}
use Rattle.cg_walls.specs.Lines.{OnLine, RiseAfter, TimesRise}
use Rattle.cg_walls.specs.declared.bends.Point.{Point}
use Rattle.cg_walls.proofs.Lines.{double, double-back, double-on, on-along, one-on}
use Rattle.cg_thermo.specs.declared.corners.Corner.{Corner}
use Rattle.cg_thermo.specs.Pictures.{spot}
use Rattle.cg_thermo.specs.Signed.{corner_at}
use Rattle.cg_thermo.specs.WallLine.{AllWhole, AreCorners, IsOnLine, marks_at}

-- ---- at twice the scale

marks-next : (s : ℕ) (cs : List Corner) → AllWhole s cs → marks_at (suc s) cs ≡ map double (marks_at s cs)
marks-next s [] w = refl
marks-next s (c ∷ cs) (a, b, w) =
    let x = units-suc s c.value a in
    let y = units-suc s c.at b in
    let rest = marks-next s cs w in
    λ i. record { value = x i; at = y i } ∷ rest i

all_whole-next : (s : ℕ) (cs : List Corner) → AllWhole s cs → AllWhole (suc s) cs
all_whole-next s [] w = tt
all_whole-next s (c ∷ cs) (a, b, w) = (omega arith, omega arith, all_whole-next s cs w)

-- ---- at any scale

-- at the scale s all is whole, and x is the value at t
record OnLineAt (s : ℕ) (cs : List Corner) (t x : Number) : Type 0 where
  whole : AllWhole s cs
  time : exp_of t ≤ s
  place : exp_of x ≤ s
  value : OnLine (marks_at s cs) (units s t) (units s x)

on_next : (s : ℕ) (cs : List Corner) (t x : Number) → OnLineAt s cs t x → OnLineAt (suc s) cs t x
on_next s cs t x o = record {
  whole = all_whole-next s cs o.whole;
  time = let h = o.time in omega arith;
  place = let h = o.place in omega arith;
  value = on-along (map double (marks_at s cs)) (marks_at (suc s) cs) (units s t +ℤ units s t) (units (suc s) t) (units s x +ℤ units s x) (units (suc s) x)
      (sym (marks-next s cs o.whole)) (sym (units-suc s t o.time)) (sym (units-suc s x o.place))
      (double-on (marks_at s cs) (units s t) (units s x) o.value);
}

on_back : (s : ℕ) (cs : List Corner) (t x : Number) → AllWhole s cs → exp_of t ≤ s → exp_of x ≤ s → OnLineAt (suc s) cs t x → OnLineAt s cs t x
on_back s cs t x w h g o = record {
  whole = w;
  time = h;
  place = g;
  value = double-back (marks_at s cs) (units s t) (units s x)
      (on-along (marks_at (suc s) cs) (map double (marks_at s cs)) (units (suc s) t) (units s t +ℤ units s t) (units (suc s) x) (units s x +ℤ units s x)
      (marks-next s cs w) (units-suc s t h) (units-suc s x g) o.value);
}

on_later : (k s : ℕ) (cs : List Corner) (t x : Number) → OnLineAt s cs t x → OnLineAt (k + s) cs t x
on_later zero s cs t x o = let e : s ≡ 0 + s = omega arith in rw (← e) o
on_later (suc k) s cs t x o = let e : suc (k + s) ≡ suc k + s = omega arith in rw (← e) (on_next (k + s) cs t x (on_later k s cs t x o))

whole_later : (k s : ℕ) (cs : List Corner) → AllWhole s cs → AllWhole (k + s) cs
whole_later zero s cs w = let e : s ≡ 0 + s = omega arith in rw (← e) w
whole_later (suc k) s cs w = let e : suc (k + s) ≡ suc k + s = omega arith in rw (← e) (all_whole-next (k + s) cs (whole_later k s cs w))

on_earlier : (k s : ℕ) (cs : List Corner) (t x : Number) → AllWhole s cs → exp_of t ≤ s → exp_of x ≤ s → OnLineAt (k + s) cs t x
    → OnLineAt s cs t x
on_earlier zero s cs t x w h g o = let e : 0 + s ≡ s = omega arith in rw (← e) o
on_earlier (suc k) s cs t x w h g o = let e : suc k + s ≡ suc (k + s) = omega arith in
    on_earlier k s cs t x w h g (on_back (k + s) cs t x (whole_later k s cs w) (omega arith) (omega arith) (rw (← e) o))

-- what is so at one scale is so at each
pub on_line : (r : ℕ) (cs : List Corner) (t x : Number) → AllWhole r cs → exp_of t ≤ r → exp_of x ≤ r
    → OnLine (marks_at r cs) (units r t) (units r x) → IsOnLine cs t x
on_line r cs t x w h g e = record {
  value = λ s v i j.
      (let o = on_later s r cs t x (record { whole = w; time = h; place = g; value = e }) in
      let k : s + r ≡ r + s = omega arith in
      (on_earlier r s cs t x v i j (rw (← k) o)).value);
}

-- ---- wall values

pub some_on_line : (r : Option Number) (items cs : List Corner) (t : Number) → items ≡ cs → AllWhole places cs → InWide t
    → IfSome r InWide → IfSome r (λ x. OnLine (marks_at places items) (units places t) (units places x))
    → IfSome r (λ x. IsOnLine cs t x)
some_on_line None items cs t same w h i e = tt
some_on_line (Some x) items cs t same w h i e =
    on_line places cs t x w h.short i.short (subst (λ z. OnLine (marks_at places z) (units places t) (units places x)) same e)

pub none_on_line : (r : Option Number) (items cs : List Corner) (t : Number) → items ≡ cs → AllWhole places cs → InWide t
    → IfNone r ((n : ℤ) → OnLine (marks_at places items) (units places t) n → 2 ^ 126 ≤ unsigned_abs n)
    → IfNone r ((x : Number) → IsOnLine cs t x → ¬ InWide x)
none_on_line (Some x) items cs t same w h e = tt
none_on_line None items cs t same w h e = λ x o i.
    let a = e (units places x) (subst (λ z. OnLine (marks_at places z) (units places t) (units places x)) (sym same)
    (o.value places w h.short i.short)) in
    let b = wide-word x i in
    absurd (omega arith)

-- ---- corners at points

whole_corners : (b : Bool) (ps : List Point) → AllWhole places (map (corner_at b) ps)
whole_corners b [] = tt
whole_corners b (p ∷ ps) = (exp-ratio _ places, exp-ratio _ places, whole_corners b ps)

rise_after : (b : Bool) (t u : ℤ) (ps : List Point) → u ≡ t → RiseAfter t (marks ps) → RiseAfter u (marks_at places (map (corner_at b) ps))
rise_after b t u [] e r = tt
rise_after b t u (p ∷ ps) e r =
    let k = units-ratio (pos p.at) places in
    let a = r.0 in
    let h : u <ℤ units places (ratio (pos p.at) places) = subst (λ z. u <ℤ z) (sym k) (subst (λ z. z <ℤ pos p.at) (sym e) a) in
    (h, rise_after b (pos p.at) (units places (ratio (pos p.at) places)) ps k r.1)

rise_corners : (b : Bool) (ps : List Point) → TimesRise (marks ps) → TimesRise (marks_at places (map (corner_at b) ps))
rise_corners b [] r = tt
rise_corners b (p ∷ ps) r = rise_after b (pos p.at) (units places (ratio (pos p.at) places)) ps (units-ratio (pos p.at) places) r

pub are_corners : (b : Bool) (ps : List Point) → TimesRise (marks ps) → AreCorners (map (corner_at b) ps)
are_corners b ps r = record { whole = whole_corners b ps; rise = rise_corners b ps r }

-- ---- the line of points

whole_spots : (s : ℕ) (ps : List Point) → AllWhole s (map (spot s) ps)
whole_spots s [] = tt
whole_spots s (p ∷ ps) = (exp-ratio p.value s, exp-ratio (pos p.at) s, whole_spots s ps)

spots-marks : (s : ℕ) (ps : List Point) → marks ps ≡ marks_at s (map (spot s) ps)
spots-marks s [] = refl
spots-marks s (p ∷ ps) =
    let x = sym (units-ratio p.value s) in
    let y = sym (units-ratio (pos p.at) s) in
    let rest = spots-marks s ps in
    λ i. record { value = x i; at = y i } ∷ rest i

pub spots-along : (s : ℕ) (ps : List Point) (cs : List Corner) → cs ≡ map (spot s) ps → marks ps ≡ marks_at s cs
spots-along s ps cs e = spots-marks s ps ∙ ap (marks_at s) (sym e)

-- what is on the line of the corners at some points is there on the line of the points
pub on_spots : (s : ℕ) (ps : List Point) (cs : List Corner) (t x : Number) (u : ℕ) (v : ℤ) → cs ≡ map (spot s) ps
    → exp_of t ≤ s → exp_of x ≤ s → units s t ≡ pos u → IsOnLine cs t x → OnLine (marks ps) (pos u) v → units s x ≡ v
on_spots s ps cs t x u v e h g i o l =
    one-on (marks ps) (pos u) (units s x) v
    (on-along (marks_at s cs) (marks ps) (units s t) (pos u) (units s x) (units s x) (sym (spots-along s ps cs e)) i refl
    (o.value s (rw e (whole_spots s ps)) h g)) l

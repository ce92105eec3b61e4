-- The gap between two cuts, at a scale.
use Rattle.std.proofs.Common.{◌≡◌, refl, ℕ, ◌+◌, ◌-◌, ◌^◌, ◌≤◌, ◌<◌, arith, zero, suc, Bool, true, false, not, IsTrue}
use Rattle.std.proofs.Common.{ap, sym, ◌∙◌, ℤ, pos, negsuc, ◌+ℤ◌, ◌-ℤ◌, ◌*ℤ◌, ◌≤ℤ◌, ◌<ℤ◌, inl, inr, unsigned_abs}
use Rattle.std.proofs.lemmas.Int.{ints}
use Rattle.std.specs.Prelude.{Option, Some, None, if◌then◌else◌}
use Rattle.cg_dyadic.specs.declared.cut.Cut.{Cut}
use Rattle.cg_dyadic.specs.declared.fault.RangeFault.{RangeFault}
use Rattle.cg_dyadic.specs.Cut.{NoneBetween, in_gap, in_some, within_cut}
use Rattle.cg_dyadic.specs.Exact.{Holds}
use Rattle.cg_dyadic.specs.Held.{InLowest}
use Rattle.cg_dyadic.specs.Number.{InRange, Number, NumberLe, exp_of, num_of, number_le, ratio}
use Rattle.cg_dyadic.specs.Search.{AtLeast, AtMost, AtScale, FoundAt, ShortCut, Small, SmallAround, crossed, first_unit, last_unit}
use Rattle.cg_dyadic.specs.Simplest.{NoOptionPasses, NonePasses}
use Rattle.cg_dyadic.specs.Units.{doubled, units}
use Rattle.cg_dyadic.proofs.Fractions.{ratio-lowest}
use Rattle.cg_dyadic.proofs.Integers.{abs_tells, eq_or_lt, from_lt_z}
use Rattle.cg_dyadic.proofs.Scale.{doubled-le, doubled-mul, le-units, not_le-units, units-le, units-suc}
use Rattle.cg_dyadic.proofs.Simplest.{Convex, outside_none}
use Rattle.cg_dyadic.proofs.Truth.{and-both, and-split, false-from, is_not_not, not_not_is, not_true, true_not}
use Rattle.cg_dyadic.proofs.Values.{less-le, number_le-same, number_le-trans}

-- ---- units

pub units_is : (x : Number) (n r : ℤ) (e : ℕ) → num_of x ≡ n → exp_of x ≡ e → r ≡ n *ℤ pos (2 ^ (41 - e)) → r ≡ units 41 x
units_is x n r e f g h = h ∙ sym (doubled-mul (41 - e) n) ∙ ap (λ z. doubled (41 - e) z) (sym f) ∙ ap (λ d. doubled (41 - d) (num_of x)) (sym g)

doubled_up : (d : ℕ) (m : ℤ) → pos 0 ≤ℤ m → pos 0 ≤ℤ doubled d m
doubled_up zero m h = h
doubled_up (suc d) m h = let k = doubled_up d m h in omega (arith, ints)

doubled_down : (d : ℕ) (m : ℤ) → m ≤ℤ pos 0 → doubled d m ≤ℤ pos 0
doubled_down zero m h = h
doubled_down (suc d) m h = let k = doubled_down d m h in omega (arith, ints)

doubled_more : (e d : ℕ) (m : ℤ) → pos 0 ≤ℤ m → doubled d m ≤ℤ doubled (e + d) m
doubled_more zero d m h = let e : 0 + d ≡ d = omega arith in rw e (omega (arith, ints))
doubled_more (suc e) d m h = let f : suc e + d ≡ suc (e + d) = omega arith in rw f (let i = doubled_more e d m h in let j = doubled_up (e + d) m h in omega (arith, ints))

doubled_less : (e d : ℕ) (m : ℤ) → m ≤ℤ pos 0 → doubled (e + d) m ≤ℤ doubled d m
doubled_less zero d m h = let e : 0 + d ≡ d = omega arith in rw e (omega (arith, ints))
doubled_less (suc e) d m h = let f : suc e + d ≡ suc (e + d) = omega arith in rw f (let i = doubled_less e d m h in let j = doubled_down (e + d) m h in omega (arith, ints))

at_finest : (d : ℕ) (m : ℤ) → d ≤ 41 → doubled (41 - d + d) m ≡ doubled 41 m
at_finest d m h = let e : 41 - d + d ≡ 41 = omega arith in ap (λ z. doubled z m) e

most : doubled 41 (pos 18446744073709551616) ≡ pos 40564819207303340847894502572032
most = refl

least : doubled 41 (negsuc 18446744073709551615) ≡ negsuc 40564819207303340847894502572031
least = refl

pub units_small : (x : Number) → InRange x → (negsuc 40564819207303340847894502572031 ≤ℤ units 41 x) × (units 41 x ≤ℤ pos 40564819207303340847894502572032)
units_small x r =
    let a = abs_tells (num_of x) in let s = r.small in
    let lo : negsuc 18446744073709551615 ≤ℤ num_of x = omega (arith, ints) in
    let hi : num_of x ≤ℤ pos 18446744073709551616 = omega (arith, ints) in
    let d : ℕ = 41 - exp_of x in
    let b = doubled-le d (negsuc 18446744073709551615) (num_of x) lo in
    let c = doubled-le d (num_of x) (pos 18446744073709551616) hi in
    let e = doubled_more (41 - d) d (pos 18446744073709551616) (omega (arith, ints)) in
    let f = doubled_less (41 - d) d (negsuc 18446744073709551615) (omega (arith, ints)) in
    let g = at_finest d (pos 18446744073709551616) (omega arith) ∙ most in
    let h = at_finest d (negsuc 18446744073709551615) (omega arith) ∙ least in
    (omega (arith, ints), omega (arith, ints))

small_from : (n : ℤ) → negsuc 40564819207303340847894502572031 ≤ℤ n → n ≤ℤ pos 40564819207303340847894502572032 → Small (n +ℤ pos 1) × Small (n -ℤ pos 1) × Small n
small_from n h k = (record { from_low = omega (arith, ints); to_high = omega (arith, ints) }, record { from_low = omega (arith, ints); to_high = omega (arith, ints) }, record { from_low = omega (arith, ints); to_high = omega (arith, ints) })

pub units-small : (x : Number) → InRange x → Small (units 41 x +ℤ pos 1) × Small (units 41 x -ℤ pos 1) × Small (units 41 x)
units-small x r = let u = units_small x r in small_from (units 41 x) u.0 u.1

pub small_around : (x : Number) (r : ℤ) → r ≡ units 41 x → InRange x → SmallAround r
small_around x r e i = let (a, b, c) = units-small x i in
    rw e (record { up = a; down = b; here = c })

-- ---- a gap at the finest scale

low_end : (p : Number) (c : Bool) (x : Number) → exp_of p ≤ 40 → exp_of x ≤ 41 → IsTrue (not (within_cut true p c x)) → (if c then units 41 p +ℤ pos 1 else units 41 p) ≤ℤ units 41 x
low_end p true x h k t = let l = not_le-units 41 x p k (omega arith) (not_true (number_le x p) t) in omega (arith, ints)
low_end p false x h k t = le-units 41 p x (omega arith) k (not_not_is (number_le p x) t)

low_back : (p : Number) (c : Bool) (x : Number) → exp_of p ≤ 40 → exp_of x ≤ 41 → (if c then units 41 p +ℤ pos 1 else units 41 p) ≤ℤ units 41 x → IsTrue (not (within_cut true p c x))
low_back p true x h k t = true_not (number_le x p) (λ l. let i = le-units 41 x p k (omega arith) l in omega (arith, ints))
low_back p false x h k t = is_not_not (number_le p x) (units-le 41 p x (omega arith) k t)

high_end : (q : Number) (d : Bool) (x : Number) → exp_of q ≤ 40 → exp_of x ≤ 41 → IsTrue (not (within_cut false q d x)) → units 41 x ≤ℤ (if d then units 41 q -ℤ pos 1 else units 41 q)
high_end q true x h k t = let l = not_le-units 41 q x (omega arith) k (not_true (number_le q x) t) in omega (arith, ints)
high_end q false x h k t = le-units 41 x q k (omega arith) (not_not_is (number_le x q) t)

high_back : (q : Number) (d : Bool) (x : Number) → exp_of q ≤ 40 → exp_of x ≤ 41 → units 41 x ≤ℤ (if d then units 41 q -ℤ pos 1 else units 41 q) → IsTrue (not (within_cut false q d x))
high_back q true x h k t = true_not (number_le q x) (λ l. let i = le-units 41 q x (omega arith) k l in omega (arith, ints))
high_back q false x h k t = is_not_not (number_le x q) (units-le 41 x q k (omega arith) t)

low_some : (low : Option Cut) (x : Number) → ShortCut low → exp_of x ≤ 41 → IsTrue (not (in_some true low x)) → AtLeast (first_unit low) (units 41 x)
low_some None x h k t = tt
low_some (Some c) x h k t = low_end c.at c.closed x h k t

low_some_back : (low : Option Cut) (x : Number) → ShortCut low → exp_of x ≤ 41 → AtLeast (first_unit low) (units 41 x) → IsTrue (not (in_some true low x))
low_some_back None x h k t = refl
low_some_back (Some c) x h k t = low_back c.at c.closed x h k t

high_some : (high : Option Cut) (x : Number) → ShortCut high → exp_of x ≤ 41 → IsTrue (not (in_some false high x)) → AtMost (last_unit high) (units 41 x)
high_some None x h k t = tt
high_some (Some c) x h k t = high_end c.at c.closed x h k t

high_some_back : (high : Option Cut) (x : Number) → ShortCut high → exp_of x ≤ 41 → AtMost (last_unit high) (units 41 x) → IsTrue (not (in_some false high x))
high_some_back None x h k t = refl
high_some_back (Some c) x h k t = high_back c.at c.closed x h k t

pub gap_at_scale : (low high : Option Cut) → ShortCut low → ShortCut high → AtScale 41 (first_unit low) (last_unit high) (in_gap low high)
gap_at_scale low high s r = record {
  low = λ x k t. low_some low x s k ((and-split (not (in_some true low x)) (not (in_some false high x)) t).0);
  high = λ x k t. high_some high x r k ((and-split (not (in_some true low x)) (not (in_some false high x)) t).1);
  passes = λ x k a b. and-both (not (in_some true low x)) (not (in_some false high x)) (low_some_back low x s k a) (high_some_back high x r k b);
}

-- ---- an empty gap

from_below : (p : Number) (c : Bool) (x : Number) → IsTrue (not (within_cut true p c x)) → NumberLe p x
from_below p true x h = less-le x p (not_true (number_le x p) h)
from_below p false x h = not_not_is (number_le p x) h

from_above : (q : Number) (d : Bool) (x : Number) → IsTrue (not (within_cut false q d x)) → NumberLe x q
from_above q true x h = less-le q x (not_true (number_le q x) h)
from_above q false x h = not_not_is (number_le x q) h

first_most : (c : Bool) (u : ℤ) → (if c then u +ℤ pos 1 else u) ≤ℤ (u +ℤ pos 1)
first_most true u = omega (arith, ints)
first_most false u = omega (arith, ints)

last_least : (d : Bool) (u : ℤ) → (u -ℤ pos 1) ≤ℤ (if d then u -ℤ pos 1 else u)
last_least true u = omega (arith, ints)
last_least false u = omega (arith, ints)

cut_gap : (p q : Number) (c d : Bool) (x : Number) → exp_of p ≤ 40 → exp_of q ≤ 40 → (if d then units 41 q -ℤ pos 1 else units 41 q) <ℤ (if c then units 41 p +ℤ pos 1 else units 41 p)
    → IsTrue (not (within_cut true p c x)) → IsTrue (not (within_cut false q d x)) → ⊥
cut_gap p q c d x h k l a b =
    let f = from_below p c x a in let g = from_above q d x b in
    let u = le-units 40 p q h k (number_le-trans p x q f g) in
    let e = units-suc 40 p h in let i = units-suc 40 q k in
    let m = first_most c (units 41 p) in let n = last_least d (units 41 q) in
    elim (eq_or_lt (units 40 p) (units 40 q) u) [
      | inr j ↦ omega (arith, ints)
      | inl j ↦
          let qp : NumberLe q p = units-le 40 q p k h (omega (arith, ints)) in
          let same : x ≡ p = number_le-same x p (number_le-trans x q p g qp) f in
          let s : exp_of x ≡ exp_of p = ap exp_of same in
          let v = low_end p c x h (omega arith) a in let w = high_end q d x k (omega arith) b in
          omega (arith, ints)
    ]

none_at : (low high : Option Cut) → ShortCut low → ShortCut high → crossed (first_unit low) (last_unit high) ≡ true → (x : Number) → IsTrue (not (in_some true low x)) → IsTrue (not (in_some false high x)) → ⊥
none_at None high s r h x a b = no high h
  where
    no : (high : Option Cut) → crossed None (last_unit high) ≡ true → ⊥
    no None h = cc
    no (Some d) h = cc
none_at (Some c) None s r h x a b = no (if c.closed then units 41 c.at +ℤ pos 1 else units 41 c.at) h
  where
    no : (u : ℤ) → crossed (Some u) None ≡ true → ⊥
    no u h = cc
none_at (Some c) (Some d) s r h x a b = cut_gap c.at d.at c.closed d.closed x s r (from_lt_z (if d.closed then units 41 d.at -ℤ pos 1 else units 41 d.at) (if c.closed then units 41 c.at +ℤ pos 1 else units 41 c.at) h) a b

pub gap_none : (low high : Option Cut) → ShortCut low → ShortCut high → crossed (first_unit low) (last_unit high) ≡ true → NonePasses (in_gap low high)
gap_none low high s r h x = false-from (in_gap low high x) (λ t. let (a, b) = and-split (not (in_some true low x)) (not (in_some false high x)) t in none_at low high s r h x a b)

-- ---- the simplest number that passes a test

below_up : (low : Option Cut) (x y : Number) → NumberLe x y → IsTrue (not (in_some true low x)) → IsTrue (not (in_some true low y))
below_up None x y h t = refl
below_up (Some c) x y h t = up c.at c.closed t
  where
    up : (p : Number) (c : Bool) → IsTrue (not (within_cut true p c x)) → IsTrue (not (within_cut true p c y))
    up p true t = true_not (number_le y p) (λ k. not_true (number_le x p) t (number_le-trans x y p h k))
    up p false t = is_not_not (number_le p y) (number_le-trans p x y (not_not_is (number_le p x) t) h)

above_down : (high : Option Cut) (x y : Number) → NumberLe x y → IsTrue (not (in_some false high y)) → IsTrue (not (in_some false high x))
above_down None x y h t = refl
above_down (Some c) x y h t = down c.at c.closed t
  where
    down : (q : Number) (d : Bool) → IsTrue (not (within_cut false q d y)) → IsTrue (not (within_cut false q d x))
    down q true t = true_not (number_le q x) (λ k. not_true (number_le q y) t (number_le-trans q x y k h))
    down q false t = is_not_not (number_le x q) (number_le-trans x y q h (not_not_is (number_le y q) t))

pub gap_convex : (low high : Option Cut) → Convex (in_gap low high)
gap_convex low high = record {
  between = λ x y z a b h k.
      and-both (not (in_some true low y)) (not (in_some false high y))
      (below_up low x y h ((and-split (not (in_some true low x)) (not (in_some false high x)) a).0))
      (above_down high y z k ((and-split (not (in_some true low z)) (not (in_some false high z)) b).1));
}

-- ---- for the code

pub gap_found : (low high : Option Cut) (a b : Option ℤ) (n : ℤ) (e : ℕ) → a ≡ first_unit low → b ≡ last_unit high → ShortCut low → ShortCut high
    → ((test : Number → Bool) → AtScale 41 a b test → FoundAt test n e) → FoundAt (in_gap low high) n e
gap_found low high a b n e p q s r f = f (in_gap low high) (rw q (rw p (gap_at_scale low high s r)))

pub gap_nothing : (low high : Option Cut) (a b : Option ℤ) (r : Bool) → a ≡ first_unit low → b ≡ last_unit high → ShortCut low → ShortCut high
    → r ≡ crossed a b → r ≡ true → NonePasses (in_gap low high)
gap_nothing low high a b r p q s t e f = gap_none low high s t (ap (λ z. crossed z (last_unit high)) (sym p) ∙ ap (λ z. crossed a z) (sym q) ∙ sym e ∙ f)

pub lowest_found : (test : Number → Bool) (n m : ℤ) (e : ℕ) → m ≡ n → FoundAt test n e → unsigned_abs n < 2 ^ 64 → e ≤ 40 → InLowest m e
lowest_found test n m e p f s t =
    let (a, b) = ratio-lowest n e f.lowest in
    rw p (record { num_is = a; exp_is = b; small = s; short = t })

pub found_inside : (test : Number → Bool) (n m : ℤ) (e : ℕ) → m ≡ n → FoundAt test n e → unsigned_abs n < 2 ^ 64 → e ≤ 40
    → NoOptionPasses test (ratio m e) × InRange (ratio m e)
found_inside test n m e p f s t =
    let (a, b) = ratio-lowest n e f.lowest in
    let c = ap unsigned_abs a in
    rw p (f.simplest, record { small = omega arith; short = omega arith })

pub found_outside : (test : Number → Bool) (n : ℤ) (e : ℕ) → FoundAt test n e → ((unsigned_abs n < 2 ^ 64) × (e ≤ 40) → ⊥) → ¬ InRange (ratio n e)
found_outside test n e f h r =
    let (a, b) = ratio-lowest n e f.lowest in
    let c = ap unsigned_abs a in
    let s = r.small in let t = r.short in
    h (omega arith, omega arith)

pub found_held : (test : Number → Bool) (f : RangeFault) → FoundAt test f.num f.exp → ((unsigned_abs f.num < 2 ^ 64) × (f.exp ≤ 40) → ⊥)
    → (x : Number) × Holds f x × NoOptionPasses test x × (¬ InRange x)
found_held test f is out =
    let (a, b) = ratio-lowest f.num f.exp is.lowest in
    (ratio f.num f.exp, record { num = sym a; exp = sym b }, is.simplest, found_outside test f.num f.exp is out)

-- ---- between two cuts, in range

pub outside_between : (a b : Cut) (x : Number) → NoOptionPasses (in_gap (Some a) (Some b)) x → ¬ InRange x → NoneBetween a.at a.closed b.at b.closed
outside_between a b x s h = outside_none (in_gap (Some a) (Some b)) x (gap_convex (Some a) (Some b)) s h

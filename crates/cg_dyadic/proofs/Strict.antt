-- The simplest number strictly between two.
use Rattle.std.proofs.Common.{◌≡◌, refl, arith, Bool, true, false, not, IsTrue, sym, ◌∙◌, pos, ◌+ℤ◌, ◌-ℤ◌}
use Rattle.std.proofs.lemmas.Int.{ints}
use Rattle.std.specs.Prelude.{Option, Some, None}
use Rattle.cg_dyadic.specs.declared.cut.Cut.{Cut}
use Rattle.cg_dyadic.specs.declared.fault.RangeFault.{RangeFault}
use Rattle.cg_dyadic.specs.Cut.{in_gap, is_between, within_cut}
use Rattle.cg_dyadic.specs.Exact.{Holds}
use Rattle.cg_dyadic.specs.Number.{InRange, Number, NumberLe, exp_of, num_of, number_le, ratio, whole}
use Rattle.cg_dyadic.specs.Search.{closed_cut}
use Rattle.cg_dyadic.specs.Simplest.{Apart, NoOptionPasses, NonePasses, SimplestFor, SimplestIsOutside, strictly_between}
use Rattle.cg_dyadic.proofs.Gap.{gap_convex}
use Rattle.cg_dyadic.proofs.Middle.{middle, middle_between}
use Rattle.cg_dyadic.proofs.Scale.{exp-ratio, le-units, units-own, units-ratio}
use Rattle.cg_dyadic.proofs.Simplest.{simplest_for}
use Rattle.cg_dyadic.proofs.Truth.{and-both, and-split, differ, false-from, not_true, true_not}
use Rattle.cg_dyadic.proofs.Values.{less-le}

-- ---- a number on either side

-- a number on either side
below_of : Number → Number
below_of q = ratio (num_of q -ℤ pos 1) (exp_of q)

above_of : Number → Number
above_of q = ratio (num_of q +ℤ pos 1) (exp_of q)

below_less : (q : Number) → ¬ NumberLe q (below_of q)
unfolding below_of
below_less q h =
    let a = exp-ratio (num_of q -ℤ pos 1) (exp_of q) in let b = units-ratio (num_of q -ℤ pos 1) (exp_of q) in let c = units-own q in
    let l = le-units (exp_of q) q (ratio (num_of q -ℤ pos 1) (exp_of q)) (omega arith) a h in
    omega (arith, ints)

above_more : (q : Number) → ¬ NumberLe (above_of q) q
unfolding above_of
above_more q h =
    let a = exp-ratio (num_of q +ℤ pos 1) (exp_of q) in let b = units-ratio (num_of q +ℤ pos 1) (exp_of q) in let c = units-own q in
    let l = le-units (exp_of q) (ratio (num_of q +ℤ pos 1) (exp_of q)) q a (omega arith) h in
    omega (arith, ints)

-- ---- strictly between

apart_gap : (p q : Number) → ¬ NumberLe q p → NonePasses (is_between p true q true) → ⊥
apart_gap p q h f =
    let (a, b) = middle_between p q h in
    differ (is_between p true q true (middle p q)) (and-both (not (number_le (middle p q) p)) (not (number_le q (middle p q))) (true_not (number_le (middle p q) p) a) (true_not (number_le q (middle p q)) b)) (f (middle p q))

strict_gap : (low high : Option Number) (x : Number) → in_gap (closed_cut low) (closed_cut high) x ≡ strictly_between low high x
strict_gap None None x = refl
strict_gap None (Some q) x = refl
strict_gap (Some p) None x = refl
strict_gap (Some p) (Some q) x = refl

at_strict : (test other : Number → Bool) (x : Number) → ((y : Number) → test y ≡ other y) → SimplestFor test x → SimplestFor other x
at_strict test other x e s = record { passes = sym (e x) ∙ s.passes; simplest = λ y t. s.simplest y (e y ∙ t) }

pub strict_simplest : (low high : Option Number) (x : Number) (a b : Option Cut) → a ≡ closed_cut low → b ≡ closed_cut high → NoOptionPasses (in_gap a b) x → SimplestFor (strictly_between low high) x
strict_simplest low high x a b p q s =
    at_strict (in_gap (closed_cut low) (closed_cut high)) (strictly_between low high) x (strict_gap low high)
    (simplest_for (in_gap (closed_cut low) (closed_cut high)) x (gap_convex (closed_cut low) (closed_cut high)) (rw q at (rw p at s)))

strict_some : (low high : Option Number) → Apart low high → NonePasses (in_gap (closed_cut low) (closed_cut high)) → ⊥
strict_some None None h f = differ true refl (f (whole (pos 0)))
strict_some None (Some q) h f = apart_gap (below_of q) q (below_less q) (λ x. false-from (is_between (below_of q) true q true x) (λ t.
    differ (in_gap None (closed_cut (Some q)) x) ((and-split (not (number_le x (below_of q))) (not (number_le q x)) t).1) (f x)))
strict_some (Some p) None h f = apart_gap p (above_of p) (above_more p) (λ x. false-from (is_between p true (above_of p) true x) (λ t.
    differ (in_gap (closed_cut (Some p)) None x) (and-both (not (number_le x p)) true ((and-split (not (number_le x p)) (not (number_le (above_of p) x)) t).0) refl) (f x)))
strict_some (Some p) (Some q) h f = apart_gap p q h f

pub strict_there : (low high : Option Number) (a b : Option Cut) → a ≡ closed_cut low → b ≡ closed_cut high → Apart low high → NonePasses (in_gap a b) → ⊥
strict_there low high a b p q h f = strict_some low high h (rw q at (rw p at f))

pub outside_is : (low high : Option Number) (a b : Option Cut) (f : RangeFault) → a ≡ closed_cut low → b ≡ closed_cut high
    → (x : Number) → Holds f x → NoOptionPasses (in_gap a b) x → ¬ InRange x → SimplestIsOutside (strictly_between low high) f
outside_is low high a b f p q x h s r = record { value = x; held = h; outside = r; simplest = strict_simplest low high x a b p q s }

-- ---- a gap with a missing end is not empty

-- a gap with a missing end is not empty
pub record GapEnds (low high : Option Cut) : Type 0 where
  pub first : Cut
  pub last : Cut
  pub low_is : low ≡ Some first
  pub high_is : high ≡ Some last

pub gap_ends : (low high : Option Cut) → NonePasses (in_gap low high) → GapEnds low high
gap_ends None None f = absurd (differ true refl (f (whole (pos 0))))
gap_ends None (Some d) f = absurd (differ (in_gap None (Some d) (below_of d.at))
    (true_not (within_cut false d.at d.closed (below_of d.at)) (λ t. below_less d.at (above_tells d.at d.closed (below_of d.at) t))) (f (below_of d.at)))
  where
    above_tells : (q : Number) (d : Bool) (x : Number) → IsTrue (within_cut false q d x) → NumberLe q x
    above_tells q true x t = t
    above_tells q false x t = less-le x q (not_true (number_le x q) t)
gap_ends (Some c) None f = absurd (differ (in_gap (Some c) None (above_of c.at))
    (and-both (not (within_cut true c.at c.closed (above_of c.at))) true (true_not (within_cut true c.at c.closed (above_of c.at)) (λ t. above_more c.at (below_tells c.at c.closed (above_of c.at) t))) refl) (f (above_of c.at)))
  where
    below_tells : (p : Number) (c : Bool) (x : Number) → IsTrue (within_cut true p c x) → NumberLe x p
    below_tells p true x t = t
    below_tells p false x t = less-le p x (not_true (number_le p x) t)
gap_ends (Some c) (Some d) f = record { first = c; last = d; low_is = refl; high_is = refl }

-- Values that are put behind a list, and those of sums of two heaps.
use Rattle.std.proofs.Common.{◌≡◌, ap, sym, ◌∙◌, append_assoc, append-nil, ℕ, suc, ◌+◌, ◌-◌, ◌/◌, ◌<◌, ◌≤◌, ◌⊎◌, inl}
use Rattle.std.proofs.Common.{inr, arith, Bool, true, false, cond, List, [], ◌∷◌, ◌++◌, length, Result, Ok, Err, IfOk}
use Rattle.std.specs.Prelude.{bit_xor, get_or}
use Rattle.std.specs.Int.Bits.{xor_add_and}
use Rattle.std.proofs.lemmas.Option.{slice_get-get_or}
use Rattle.cg_form.specs.Game.{Game}
use Rattle.cg_form.specs.Order.{Equal}
use Rattle.cg_form.specs.Sum.{sum}
use Rattle.cg_form.proofs.EqualGames.{sum_equal}
use Rattle.cg_form.proofs.Preorder.{equal_refl, equal_trans}
use Rattle.cg_nimbers.specs.Nimbers.{nimber_form, nimbers_below, zero_form}
use Rattle.cg_octal.specs.Found.{Adds}
use Rattle.cg_octal.specs.Heaps.{AreValues, heap, leaves_nothing, leaves_one_heap, two_heaps}
use Rattle.cg_octal.specs.Mex.{AreNimbers, Listed}
use Rattle.cg_nimbers.proofs.NimberSums.{nimber_sum}

nimbers-append : (gs hs : List Game) (ks js : List ℕ) → AreNimbers gs ks → AreNimbers hs js
    → AreNimbers (gs ++ hs) (ks ++ js)
nimbers-append [] hs [] js a b = b
nimbers-append [] hs (k ∷ ks) js a b = absurd a
nimbers-append (g ∷ gs) hs [] js a b = absurd a
nimbers-append (g ∷ gs) hs (k ∷ ks) js a b = (a.0, nimbers-append gs hs ks js a.1 b)

listed-append : (k : ℕ) (is js : List ℕ) → Listed k (is ++ js) → Listed k is ⊎ Listed k js
listed-append k [] js l = inr l
listed-append k (i ∷ is) js (inl e) = inl (inl e)
listed-append k (i ∷ is) js (inr l) = elim (listed-append k is js l) [ inl m ↦ inl (inr m) | inr m ↦ inr m ]

-- ---- what was put behind

pub adds_none : (bound : ℕ) (before after : List ℕ) → after ≡ before → Adds bound [] before after
adds_none bound before after e = record {
  added = [];
  put = e ∙ sym (append-nil before);
  are_nimbers = tt;
  below = λ k l. absurd l;
}

pub adds_then : (bound : ℕ) (gs hs : List Game) (a b c : List ℕ) → Adds bound gs a b → Adds bound hs b c
    → Adds bound (gs ++ hs) a c
adds_then bound gs hs a b c p q = record {
  added = p.added ++ q.added;
  put = q.put ∙ ap (λ z. z ++ q.added) p.put ∙ append_assoc a p.added q.added;
  are_nimbers = nimbers-append gs hs p.added q.added p.are_nimbers q.are_nimbers;
  below = λ k l. elim (listed-append k p.added q.added l) [ inl m ↦ p.below k m | inr m ↦ q.below k m ];
}

-- a greater bound
pub adds_within : (n m : ℕ) (gs : List Game) (a b : List ℕ) → n ≤ m → Adds n gs a b → Adds m gs a b
adds_within n m gs a b l p = record {
  added = p.added;
  put = p.put;
  are_nimbers = p.are_nimbers;
  below = λ k i. let s = p.below k i in omega arith;
}

adds_one : (bound : ℕ) (g : Game) (k : ℕ) (before after : List ℕ) → Equal g (nimber_form k) → k < bound
    → after ≡ before ++ (k ∷ []) → Adds bound (g ∷ []) before after
adds_one bound g k before after e l p = record {
  added = k ∷ [];
  put = p;
  are_nimbers = (e, tt);
  below = λ i m. elim m [ inl s ↦ omega arith | inr n ↦ absurd n ];
}

-- one more where the test says so
adds_if : (bound : ℕ) (test : Bool) (g : Game) (k : ℕ) (before after : List ℕ) → Equal g (nimber_form k) → k < bound
    → after ≡ before ++ cond test (k ∷ []) [] → Adds bound (cond test (g ∷ []) []) before after
adds_if bound true g k before after e l p = adds_one bound g k before after e l p
adds_if bound false g k before after e l p = adds_none bound before after (p ∙ append-nil before)

-- what a further call puts behind
pub if_ok_then : {V E : Type 0} (f : V → List ℕ) (r : Result V E) (bound less : ℕ) (gs hs whole : List Game) (a b : List ℕ)
    → less ≤ bound → Adds bound gs a b → gs ++ hs ≡ whole → IfOk r (λ v. Adds less hs b (f v))
    → IfOk r (λ v. Adds bound whole a (f v))
if_ok_then f (Ok v) bound less gs hs whole a b l p e q =
    rw e at (adds_then bound gs hs a b (f v) p (adds_within less bound hs b (f v) l q))
if_ok_then f (Err e) bound less gs hs whole a b l p s q = tt

-- ---- the values of heaps

zero_equal : Equal zero_form (nimber_form 0)
unfolding nimber_form nimbers_below
zero_equal = equal_refl zero_form

heap-value : (digits ks : List ℕ) (i : ℕ) → AreValues digits ks → i < length ks
    → Equal (heap digits i) (nimber_form (get_or ks i 0))
heap-value digits ks i v l = v.equal i (get_or ks i 0) (slice_get-get_or ks i 0 l)

value-within : (digits ks : List ℕ) (i : ℕ) → AreValues digits ks → i < length ks → get_or ks i 0 ≤ i
value-within digits ks i v l = v.at_most i (get_or ks i 0) (slice_get-get_or ks i 0 l)

xor-within : (a b : ℕ) → bit_xor a b ≤ a + b
xor-within a b = let e = xor_add_and a b in omega arith

two_heaps-value : (digits ks : List ℕ) (i j : ℕ) → AreValues digits ks → i < length ks → j < length ks
    → Equal (sum (heap digits i) (heap digits j)) (nimber_form (bit_xor (get_or ks i 0) (get_or ks j 0)))
two_heaps-value digits ks i j v l m =
    let a : Game = nimber_form (get_or ks i 0) in
    let b : Game = nimber_form (get_or ks j 0) in
    equal_trans (sum (heap digits i) (heap digits j)) (sum a b) (nimber_form (bit_xor (get_or ks i 0) (get_or ks j 0)))
    (sum_equal (heap digits i) (heap digits j) a b (heap-value digits ks i v l) (heap-value digits ks j v m))
    (nimber_sum (get_or ks i 0) (get_or ks j 0))

-- one sum more
pub two_heaps-more : (digits ks : List ℕ) (left k : ℕ) (a b c : List ℕ) → AreValues digits ks → left < length ks
    → k < left / 2 → Adds (suc left) (two_heaps (heap digits) left k) a b
    → c ≡ b ++ (bit_xor (get_or ks (k + 1) 0) (get_or ks (left - (k + 1)) 0) ∷ [])
    → Adds (suc left) (two_heaps (heap digits) left (k + 1)) a c
two_heaps-more digits ks left k a b c v l s p e =
    let next : k + 1 ≡ suc k = omega arith in
    let first = value-within digits ks (suc k) v (omega arith) in
    let second = value-within digits ks (left - suc k) v (omega arith) in
    let both = xor-within (get_or ks (suc k) 0) (get_or ks (left - suc k) 0) in
    rw next (adds_then (suc left) (two_heaps (heap digits) left k)
    (sum (heap digits (suc k)) (heap digits (left - suc k)) ∷ []) a b c p
    (adds_one (suc left) (sum (heap digits (suc k)) (heap digits (left - suc k)))
    (bit_xor (get_or ks (suc k) 0) (get_or ks (left - suc k) 0)) b c
    (two_heaps-value digits ks (suc k) (left - suc k) v (omega arith) (omega arith)) (omega arith) (rw next at e)))

-- what was put behind for a digit before the sums
pub singles-made : (digits ks : List ℕ) (digit left : ℕ) (none one : Bool) (a b c : List ℕ) → AreValues digits ks
    → left < length ks → none ≡ leaves_nothing digit left → one ≡ leaves_one_heap digit left
    → b ≡ a ++ cond none (0 ∷ []) [] → c ≡ b ++ cond one (get_or ks left 0 ∷ []) []
    → Adds (suc left)
    (cond (leaves_nothing digit left) (zero_form ∷ []) [] ++ cond (leaves_one_heap digit left) (heap digits left ∷ []) [])
    a c
singles-made digits ks digit left none one a b c v l n o p q =
    let w = value-within digits ks left v l in
    adds_then (suc left) (cond (leaves_nothing digit left) (zero_form ∷ []) [])
    (cond (leaves_one_heap digit left) (heap digits left ∷ []) []) a b c
    (adds_if (suc left) (leaves_nothing digit left) zero_form 0 a b zero_equal (omega arith)
    (p ∙ ap (λ z. a ++ cond z (0 ∷ []) []) n))
    (adds_if (suc left) (leaves_one_heap digit left) (heap digits left) (get_or ks left 0) b c
    (heap-value digits ks left v l) (omega arith) (q ∙ ap (λ z. b ++ cond z (get_or ks left 0 ∷ []) []) o))

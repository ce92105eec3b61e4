-- Values of rises.
use Rattle.std.proofs.Common.{◌≡◌, refl, ℕ, ◌+◌, ◌-◌, ◌<◌, ◌≤◌, arith, zero, suc, ap, sym, ◌∙◌, Bool, true}
use Rattle.std.proofs.Common.{false, not, cond, List, [], ◌∷◌, ◌++◌, inl, inr, ◌⊎◌, ℤ, pos, neg_ℤ, ◌+ℤ◌, ◌≤ℤ◌}
use Rattle.std.proofs.lemmas.Int.{ints}
use Rattle.std.proofs.lemmas.Bool.Decides.{nat_tests}
use Rattle.std.specs.Prelude.{nat_lt}
use Rattle.cg_walls.specs.declared.TheConstants.{BOUND}
use Rattle.cg_walls.specs.declared.rise.Rise.{Rise}
use Rattle.cg_walls.specs.Rises.{Climbs, IsWall, climbed, rises_at, rises_of, step, steps, value_at}

-- ---- tests

pub lt_true : (a b : ℕ) → a < b → nat_lt a b ≡ true
lt_true a b h = grind (arith, nat_tests)

pub lt_false : (a b : ℕ) → b ≤ a → nat_lt a b ≡ false
lt_false a b h = grind (arith, nat_tests)

pub le_or_lt_n : (a b : ℕ) → (a ≤ b) ⊎ (b < a)
le_or_lt_n a b = grind arith

pub true_or_false : (b : Bool) → (b ≡ true) ⊎ (b ≡ false)
true_or_false true = inl refl
true_or_false false = inr refl

-- ---- values

pub value-zero : (r : Rise) → value_at r 0 ≡ r.start
unfolding value_at
value-zero r = refl

pub value-suc : (r : Rise) (t : ℕ) → value_at r (suc t) ≡ value_at r t +ℤ step (rises_of r t)
unfolding value_at
value-suc r t = refl

-- two functions with one start and the same steps
pub climbed_is : (r : Rise) (f : ℕ → ℤ) → f 0 ≡ r.start → ((u : ℕ) → f (suc u) ≡ f u +ℤ step (rises_of r u)) → (t : ℕ)
    → value_at r t ≡ f t
climbed_is r f s h zero = value-zero r ∙ sym s
climbed_is r f s h (suc t) = value-suc r t ∙ ap (λ z. z +ℤ step (rises_of r t)) (climbed_is r f s h t) ∙ sym (h t)

steps-suc : (b : Bool) (k : ℕ) → steps b (suc k) ≡ steps b k +ℤ step b
steps-suc true k = omega (arith, ints)
steps-suc false k = refl

steps-zero : (b : Bool) → steps b 0 ≡ pos 0
steps-zero true = refl
steps-zero false = refl

pub steady_from : (r : Rise) (b : Bool) (now k : ℕ) → ((u : ℕ) → now ≤ u → u < now + k → rises_of r u ≡ b)
    → value_at r (now + k) ≡ value_at r now +ℤ steps b k
steady_from r b now zero h =
    let e : now + 0 ≡ now = omega arith in
    let z = steps-zero b in
    let i = ap (value_at r) e in
    omega (arith, ints)
steady_from r b now (suc k) h =
    let e : now + suc k ≡ suc (now + k) = omega arith in
    let i = steady_from r b now k (λ u p q. h u p (omega arith)) in
    let j = ap (value_at r) e in
    let v = value-suc r (now + k) in
    let s = ap step (h (now + k) (omega arith) (omega arith)) in
    let n = steps-suc b k in
    omega (arith, ints)

pub steady : (r : Rise) (b : Bool) (now to : ℕ) → now ≤ to → ((u : ℕ) → now ≤ u → u < to → rises_of r u ≡ b)
    → value_at r to ≡ value_at r now +ℤ steps b (to - now)
steady r b now to h k =
    let e : now + (to - now) ≡ to = omega arith in
    sym (ap (value_at r) e) ∙ steady_from r b now (to - now) (λ u p q. k u p (omega arith))

-- ---- bounds

step_small : (b : Bool) → (pos 0 ≤ℤ step b) × (step b ≤ℤ pos 1)
step_small true = (omega (arith, ints), omega (arith, ints))
step_small false = (omega (arith, ints), omega (arith, ints))

pub record Near (a b : ℤ) (k : ℕ) : Type 0 where
  pub above : a ≤ℤ b
  pub below : b ≤ℤ (a +ℤ pos k)

pub near : (r : Rise) (t : ℕ) → Near r.start (value_at r t) t
near r zero = let e = value-zero r in record { above = omega (arith, ints); below = omega (arith, ints) }
near r (suc t) = let i = near r t in let a = i.above in let b = i.below in let e = value-suc r t in
    let (s, u) = step_small (rises_of r t) in record { above = omega (arith, ints); below = omega (arith, ints) }

-- ---- turns

pub climbs-wider : (low high wide : ℕ) (ts : List ℕ) → high ≤ wide → Climbs low ts high → Climbs low ts wide
climbs-wider low high wide [] h c = tt
climbs-wider low high wide (t ∷ ts) h (a, b, c) = (a, omega arith, climbs-wider t high wide ts h c)

pub climbs-more : (low n high : ℕ) (ts : List ℕ) → low < n → n < high → Climbs low ts n → Climbs low (ts ++ n ∷ []) high
climbs-more low n high [] h k c = (h, k, tt)
climbs-more low n high (t ∷ ts) h k (a, b, c) = (a, omega arith, climbs-more t n high ts b k c)

-- before the last turn nothing changes, and from it on all is turned
pub rises-before : (up : Bool) (low n u : ℕ) (ts : List ℕ) → u < n → rises_at up (ts ++ n ∷ []) u ≡ rises_at up ts u
rises-before up low n u [] h = ap (λ b. cond b up (not up)) (lt_true u n h)
rises-before up low n u (t ∷ ts) h = ap (λ z. cond (nat_lt u t) up z) (rises-before (not up) low n u ts h)

pub rises-after : (up : Bool) (low n u : ℕ) (ts : List ℕ) → n ≤ u → Climbs low ts n
    → rises_at up (ts ++ n ∷ []) u ≡ not (rises_at up ts u)
rises-after up low n u [] h c = ap (λ b. cond b up (not up)) (lt_false u n h)
rises-after up low n u (t ∷ ts) h (a, b, c) =
    let f = lt_false u t (omega arith) in
    ap (λ z. cond z up (rises_at (not up) (ts ++ n ∷ []) u)) f ∙ rises-after (not up) t n u ts h c
    ∙ ap not (sym (ap (λ z. cond z up (rises_at (not up) ts u)) f))

-- ---- what stays

pub level-value : (r : Rise) (n : ℤ) → r.start ≡ n → r.first ≡ false → r.turns.items ≡ [] → (t : ℕ) → value_at r t ≡ n
level-value r n s f e = climbed_is r (λ _. n) (sym s)
    (λ u. same n ∙ ap (λ z. n +ℤ step z) (sym (ap (λ ts. rises_at r.first ts u) e ∙ f)))
  where
    same : (n : ℤ) → n ≡ n +ℤ pos 0
    same n = omega (arith, ints)

pub level-wall : (r : Rise) (n : ℤ) → r.start ≡ n → r.first ≡ false → r.turns.items ≡ [] → neg_ℤ BOUND ≤ℤ n → n ≤ℤ BOUND → IsWall r
level-wall r n s f e l h =
    record {
      turns = rw e tt;
      low = omega (arith, ints);
      high = λ t. (let v = level-value r n s f e t in omega (arith, ints));
    }

-- ---- a copy

module _ (r q : Rise) (start : q.start ≡ r.start) (first : q.first ≡ r.first) (turns : q.turns.items ≡ r.turns.items) where
  pub copied-value : (t : ℕ) → value_at q t ≡ value_at r t
  unfolding value_at
  copied-value t =
      ap (λ n. climbed n (rises_at q.first q.turns.items) t) start
      ∙ ap (λ b. climbed r.start (rises_at b q.turns.items) t) first
      ∙ ap (λ ts. climbed r.start (rises_at r.first ts) t) turns

  pub copied-wall : IsWall r → IsWall q
  copied-wall w =
      record {
        turns = rw turns w.turns;
        low = rw start w.low;
        high = λ t. (rw (copied-value t) (w.high t));
      }

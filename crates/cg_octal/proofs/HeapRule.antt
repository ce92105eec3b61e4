-- The rule of heaps, without the bound.
use Rattle.std.proofs.Common.{◌≡◌, refl, ap, ◌∙◌, ℕ, zero, suc, ◌-◌, ◌/◌, ◌<◌, ◌≤◌, arith, cond, List, [], ◌∷◌, ◌++◌}
use Rattle.cg_form.specs.Game.{Game, node}
use Rattle.cg_form.specs.Sum.{sum}
use Rattle.cg_nimbers.specs.Nimbers.{zero_form}
use Rattle.cg_octal.specs.Heaps.{heap, heap_options, heap_within, leaves_nothing, leaves_one_heap, leaves_two_heaps, digit_options, two_heaps}

-- the same games for the heaps of fewer than n tokens
abbrev Agree : ℕ → (ℕ → Game) → (ℕ → Game) → Type 0
Agree n f h = (i : ℕ) → i < n → f i ≡ h i

two_heaps-agree : (f h : ℕ → Game) (n left k : ℕ) → Agree n f h → left < n → k ≤ left
    → two_heaps f left k ≡ two_heaps h left k
two_heaps-agree f h n left zero a l s = refl
two_heaps-agree f h n left (suc k) a l s =
    ap (λ z. z ++ (sum (f (suc k)) (f (left - suc k)) ∷ [])) (two_heaps-agree f h n left k a l (omega arith))
    ∙ ap (λ z. two_heaps h left k ++ (sum z (f (left - suc k)) ∷ [])) (a (suc k) (omega arith))
    ∙ ap (λ z. two_heaps h left k ++ (sum (h (suc k)) z ∷ [])) (a (left - suc k) (omega arith))

digit_options-agree : (f h : ℕ → Game) (n digit left : ℕ) → Agree n f h → left < n
    → digit_options f digit left ≡ digit_options h digit left
digit_options-agree f h n digit left a l =
    let none : List Game = cond (leaves_nothing digit left) (zero_form ∷ []) [] in
    ap (λ z. none ++ (cond (leaves_one_heap digit left) (z ∷ []) [] ++ cond (leaves_two_heaps digit) (two_heaps f left (left / 2)) []))
    (a left l)
    ∙ ap (λ z. none ++ (cond (leaves_one_heap digit left) (h left ∷ []) [] ++ cond (leaves_two_heaps digit) z []))
    (two_heaps-agree f h n left (left / 2) a l (omega arith))

heap_options-agree : (f h : ℕ → Game) (digits : List ℕ) (n k : ℕ) → Agree n f h → k ≤ n
    → heap_options f digits k ≡ heap_options h digits k
heap_options-agree f h [] n k a l = refl
heap_options-agree f h (digit ∷ digits) n zero a l = refl
heap_options-agree f h (digit ∷ digits) n (suc left) a l =
    ap (λ z. z ++ heap_options f digits left) (digit_options-agree f h n digit left a (omega arith))
    ∙ ap (λ z. digit_options h digit left ++ z) (heap_options-agree f h digits n left a (omega arith))

pub heap_within-any : (b c : ℕ) (digits : List ℕ) (n : ℕ) → n < b → n < c → heap_within b digits n ≡ heap_within c digits n
unfolding heap_within
heap_within-any zero c digits n p q = absurd (omega arith)
heap_within-any (suc b) zero digits n p q = absurd (omega arith)
heap_within-any (suc b) (suc c) digits n p q =
    ap (λ z. node z z)
    (heap_options-agree (λ i. heap_within b digits i) (λ i. heap_within c digits i) digits n n
    (λ i l. heap_within-any b c digits i (omega arith) (omega arith)) (omega arith))

pub heap-options : (digits : List ℕ) (n : ℕ) → heap digits n
    ≡ node (heap_options (heap digits) digits n) (heap_options (heap digits) digits n)
unfolding heap heap_within
heap-options digits n =
    ap (λ z. node z z)
    (heap_options-agree (λ i. heap_within n digits i) (heap digits) digits n n
    (λ i l. heap_within-any n (suc i) digits i l (omega arith)) (omega arith))

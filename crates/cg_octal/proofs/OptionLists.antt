-- The lists of the options of a heap, put together.
use Rattle.std.proofs.Common.{◌≡◌, refl, ap, sym, ◌∙◌, append_assoc, append-nil, ℕ, zero, suc, ◌-◌, ◌/◌, ◌<◌, arith, true, false, cond, List, [], ◌∷◌, ◌++◌}
use Rattle.cg_form.specs.Game.{Game}
use Rattle.cg_nimbers.specs.Nimbers.{zero_form}
use Rattle.cg_octal.specs.Heaps.{heap_options, digit_options, leaves_nothing, leaves_one_heap, leaves_two_heaps, two_heaps}

-- the options by a digit other than the sums of two heaps
abbrev pub singles : (ℕ → Game) → ℕ → ℕ → List Game
singles f digit left = cond (leaves_nothing digit left) (zero_form ∷ []) []
    ++ cond (leaves_one_heap digit left) (f left ∷ []) []

pub digit_options-two : (f : ℕ → Game) (digit left : ℕ) → leaves_two_heaps digit ≡ true
    → singles f digit left ++ two_heaps f left (left / 2) ≡ digit_options f digit left
digit_options-two f digit left t =
    append_assoc (cond (leaves_nothing digit left) (zero_form ∷ []) [])
    (cond (leaves_one_heap digit left) (f left ∷ []) []) (two_heaps f left (left / 2))
    ∙ ap (λ z. cond (leaves_nothing digit left) (zero_form ∷ []) []
    ++ (cond (leaves_one_heap digit left) (f left ∷ []) [] ++ cond z (two_heaps f left (left / 2)) [])) (sym t)

pub digit_options-no_two : (f : ℕ → Game) (digit left : ℕ) → leaves_two_heaps digit ≡ false
    → singles f digit left ≡ digit_options f digit left
digit_options-no_two f digit left t =
    ap (λ z. cond (leaves_nothing digit left) (zero_form ∷ []) [] ++ z)
    (sym (append-nil (cond (leaves_one_heap digit left) (f left ∷ []) [])))
    ∙ ap (λ z. cond (leaves_nothing digit left) (zero_form ∷ []) []
    ++ (cond (leaves_one_heap digit left) (f left ∷ []) [] ++ cond z (two_heaps f left (left / 2)) [])) (sym t)

-- a heap of no token has no option
pub no_tokens : (f : ℕ → Game) (digits : List ℕ) (n : ℕ) → n ≡ 0 → [] ≡ heap_options f digits n
no_tokens f digits n e = by digits ∙ ap (heap_options f digits) (sym e)
  where
    by : (digits : List ℕ) → [] ≡ heap_options f digits 0
    by [] = refl
    by (d ∷ ds) = refl

pub heap_options-step : (f : ℕ → Game) (digit : ℕ) (others digits : List ℕ) (n : ℕ) → digits ≡ digit ∷ others → 0 < n
    → digit_options f digit (n - 1) ++ heap_options f others (n - 1) ≡ heap_options f digits n
heap_options-step f digit others digits zero e l = absurd (omega arith)
heap_options-step f digit others digits (suc n) e l =
    let same : suc n - 1 ≡ n = omega arith in
    ap (λ z. digit_options f digit z ++ heap_options f others z) same ∙ ap (λ z. heap_options f z (suc n)) (sym e)

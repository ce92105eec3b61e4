-- The first fault that is found is the first place at which a rule beyond the grammar is broken.
use Rattle.std.proofs.Common.{◌≡◌, ℕ, zero, suc, ◌+◌, ◌<◌, ◌≤◌, ◌⊎◌, inl, inr, Bool, true, false, cond, List, [], ◌∷◌, ◌++◌}
use Rattle.std.proofs.Common.{length, Option, Some, None, refl, ap, sym, subst, ◌∙◌, arith, append_assoc, append-nil}
use Rattle.std.specs.Option.{option_or}
use Rattle.cg_moves.proofs.FirstPlaces.{First, first_or, first_same}
use Rattle.cg_strip.specs.Rulebook.{is_weighted}
use Rattle.cg_strip.specs.RuleFaults.{weights_in, IsUnweighted}
use Rattle.cg_strip.specs.Faults.{is_bad_weight, weights_fault, unweighted_fault}
use Rattle.cg_strip.specs.declared.weight.Weight.{Weight}
use Rattle.cg_strip.specs.declared.items.WeightItem.{WeightItem}
use Rattle.cg_strip.specs.declared.items.RuleItem.{RuleItem}
use Rattle.cg_strip.proofs.Places.{WeightsFrom}

pub first_if : (t : Bool) (p : ℕ) → First (λ q. (t ≡ true) × (q ≡ p)) (cond t (Some p) None)
first_if true p = ((refl, refl), λ q h. omega (arith, h.1))
first_if false p = λ q h. absurd (let e : false ≡ true = h.0 in cc)

-- ---- places in a pattern or a replacement

unfoldable pub Unweighted : List Weight → ℕ → List ℕ → ℕ → Type 0
Unweighted weights place symbols q = (k : ℕ) × IsUnweighted weights symbols k × (q ≡ place + k)

pub first_unweighted : (weights : List Weight) (place : ℕ) (symbols : List ℕ) → First (Unweighted weights place symbols) (unweighted_fault weights place
    symbols)
unfolding unweighted_fault Unweighted
first_unweighted weights place [] = λ q h. omega (arith, h.1.within)
first_unweighted weights place (s ∷ symbols) = chosen (is_weighted weights s) refl (first_unweighted weights (suc place) symbols)
  where
    later : (q : ℕ) → Unweighted weights (suc place) symbols q → Unweighted weights place (s ∷ symbols) q
    later q (k, u, e) = (suc k, record { within = omega (arith, u.within); none = u.none }, omega arith)

    sooner : is_weighted weights s ≡ true → (q : ℕ) → Unweighted weights place (s ∷ symbols) q → Unweighted weights (suc place) symbols q
    sooner h q (zero, u, e) = absurd (let f : false ≡ true = sym u.none ∙ h in cc)
    sooner h q (suc k, u, e) = (k, record { within = omega (arith, u.within); none = u.none }, omega arith)

    chosen : (t : Bool) → is_weighted weights s ≡ t → First (Unweighted weights (suc place) symbols) (unweighted_fault weights (suc place) symbols) →
        First (Unweighted weights place (s ∷ symbols)) (cond t (unweighted_fault weights (suc place) symbols) (Some place))
    chosen true h f = first_same (Unweighted weights (suc place) symbols) (Unweighted weights place (s ∷ symbols)) (unweighted_fault weights (suc place)
        symbols) later (sooner h) f
    chosen false h f = ((0, record { within = omega arith; none = h }, omega arith), λ q u. omega (arith, u.2))

pub unweighted_within : (weights : List Weight) (place : ℕ) (symbols : List ℕ) (q : ℕ) → Unweighted weights place symbols q → (place ≤ q)
    × (q < place + length symbols)
unfolding Unweighted
unweighted_within weights place symbols q (k, u, e) = (omega arith, omega (arith, u.within))

-- ---- weights

-- a bad weight among these, behind those before
unfoldable pub BadWeight : List Weight → List WeightItem → ℕ → Type 0
BadWeight front items q = (before : List WeightItem) × (behind : List WeightItem) × (w : WeightItem) × (items ≡ before ++ w ∷ behind)
    × (is_bad_weight (front ++ weights_in before) w ≡ true) × (q ≡ w.place)

pub no_items : (before : List WeightItem) (behind : List WeightItem) (w : WeightItem) → [] ≡ before ++ w ∷ behind → ⊥
no_items [] behind w e = cc
no_items (b ∷ before) behind w e = cc

bad_weight_first : (front : List Weight) (w : WeightItem) (items : List WeightItem) (q : ℕ) → ((is_bad_weight front w ≡ true) × (q ≡ w.place)) ⊎ BadWeight
    (front ++ w.weight ∷ []) items q → BadWeight front (w ∷ items) q
unfolding BadWeight
bad_weight_first front w items q (inl h) = ([], items, w, refl, ap (λ (z : List Weight). is_bad_weight z w) (append-nil front) ∙ h.0, h.1)
bad_weight_first front w items q (inr (before, behind, v, e, bad, at)) = (
  w ∷ before,
  behind,
  v,
  ap (λ (z : List WeightItem). w ∷ z) e,
  ap (λ (z : List Weight). is_bad_weight z v) (sym (append_assoc front (w.weight ∷ [])
      (weights_in before))) ∙ bad,
  at,
)

bad_weight_split : (front : List Weight) (w : WeightItem) (items : List WeightItem) (q : ℕ) → BadWeight front (w ∷ items) q → ((is_bad_weight front w ≡ true)
    × (q ≡ w.place)) ⊎ BadWeight (front ++ w.weight ∷ []) items q
unfolding BadWeight
bad_weight_split front w items q ([], behind, v, e, bad, at) =
    let same : v ≡ w = cc in
    inl (
      ap (λ (z : List Weight). is_bad_weight z w) (sym (append-nil front)) ∙ ap (λ (z : WeightItem). is_bad_weight (front ++ []) z) (sym same) ∙ bad,
      at ∙ ap (λ (z : WeightItem). z.place) same,
    )
bad_weight_split front w items q (b ∷ before, behind, v, e, bad, at) =
    let head : w ≡ b = cc in
    let tail : items ≡ before ++ v ∷ behind = cc in
    inr (
      before,
      behind,
      v,
      tail,
      ap (λ (z : List Weight). is_bad_weight z v) (append_assoc front (w.weight ∷ []) (weights_in before) ∙ ap (λ (z : WeightItem).
          front ++ z.weight ∷ weights_in before) head) ∙ bad,
      at,
    )

bad_weight_low : (low : ℕ) (front : List Weight) (items : List WeightItem) (rules : List RuleItem) → WeightsFrom low items rules → (q : ℕ) → BadWeight front
    items q → low ≤ q
unfolding BadWeight
bad_weight_low low front items rules o q (before, behind, w, e, bad, at) = omega (arith, at, low_of low before items e o)
  where
    low_of : (low : ℕ) (before items : List WeightItem) → items ≡ before ++ w ∷ behind → WeightsFrom low items rules → low ≤ w.place
    low_of low [] items e o = (subst (λ (z : List WeightItem). WeightsFrom low z rules) e o).0
    low_of low (b ∷ before) items e o = let p = subst (λ (z : List WeightItem). WeightsFrom low z rules) e o in let r = low_of (suc b.place) before (before ++ w
        ∷ behind) refl p.1 in omega (arith, p.0, r)

pub first_weight : (low : ℕ) (front : List Weight) (items : List WeightItem) (rules : List RuleItem) → WeightsFrom low items rules →
    First (BadWeight front items) (weights_fault front items)
unfolding weights_fault BadWeight
first_weight low front [] rules o = λ q h. no_items h.0 h.1 h.2 h.3
first_weight low front (w ∷ items) rules o =
    subst (λ (a : Option ℕ). First (BadWeight front (w ∷ items)) a) (sym (either (is_bad_weight front w) (weights_fault (front ++ w.weight ∷ []) items)))
    (first_same (λ q. ((is_bad_weight front w ≡ true) × (q ≡ w.place)) ⊎ BadWeight (front ++ w.weight ∷ []) items q) (BadWeight front (w ∷ items))
    (option_or (cond (is_bad_weight front w) (Some w.place) None) (weights_fault (front ++ w.weight ∷ []) items))
    (bad_weight_first front w items) (bad_weight_split front w items)
    (first_or (λ q. (is_bad_weight front w ≡ true) × (q ≡ w.place)) (BadWeight (front ++ w.weight ∷ []) items) (cond (is_bad_weight front w) (Some w.place)
    None) (weights_fault (front ++ w.weight ∷ []) items)
    (λ p q h b. let low = bad_weight_low (suc w.place) (front ++ w.weight ∷ []) items rules o.1 q b in omega (arith, h.1, low))
    (first_if (is_bad_weight front w) w.place) (first_weight (suc w.place) (front ++ w.weight ∷ []) items rules o.1)))
  where
    either : (t : Bool) (other : Option ℕ) → cond t (Some w.place) other ≡ option_or (cond t (Some w.place) None) other
    either true other = refl
    either false other = refl

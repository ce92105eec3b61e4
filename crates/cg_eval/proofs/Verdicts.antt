-- The verdict on a list of items: all of them pass, or the first that doesn't is refused for one cause.
use Rattle.std.proofs.Common.{◌≡◌, refl, ap, sym, ◌∙◌, ℕ, ◌+◌, arith, ◌⊎◌, inl, inr, List, [], ◌∷◌, ◌++◌}
use Rattle.cg_dyadic.specs.Number.{is_in_range}
use Rattle.cg_dyadic.proofs.Ranges.{in_range-from, in_range-to}
use Rattle.cg_dyadic.proofs.Truth.{true_or_false}
use Rattle.cg_form.specs.Depth.{depth_of}
use Rattle.cg_form.specs.Game.{Game, number, options}
use Rattle.cg_nodes.specs.Games.{IsInRange}
use Rattle.cg_canon.specs.declared.fault.ValueFault.{ValueFault}
use Rattle.cg_canon.specs.declared.fault.ValueFault.TheVariants.{Depth, Full, Memory, Positions, Range}
use Rattle.cg_canon.specs.Items.{AllPass, IsRefusal, IsStopped, Item, Passes, item_cost, made, outside, too_many, total}
use Rattle.cg_canon.proofs.ItemLaws.{all_pass-back, all_pass-more, all_pass-none, all_pass-one, passes-first, stopped-back, stopped-one}
use Rattle.cg_values.proofs.Fronts.{not_both}
use Rattle.cg_eval.proofs.Below.{below_or_not}

-- ---- one item

in_range_or_not : (g : Game) → IsInRange g ⊎ (¬ IsInRange g)
in_range_or_not (number x) = elim (true_or_false (is_in_range x)) [
  | inl t ↦ inl (in_range-from x t)
  | inr f ↦ inr (λ h. let t = in_range-to x h in absurd (cc))
]
in_range_or_not (options ls rs) = inl tt

-- an item passes, or is refused
decided-item : (item : Item) (sum share : ℕ)
    → Passes item sum share ⊎ ((fault : ValueFault) × IsRefusal fault item sum share)
decided-item too_many sum share = inr (Positions, tt)
decided-item outside sum share = inr (Range, tt)
decided-item (made g extra) sum share = elim (in_range_or_not g) [
  | inr n ↦ inr (Range, n)
  | inl r ↦ elim (below_or_not 512 (depth_of g)) [
    | inl l ↦ inr (Depth (depth_of g), (r, refl, l))
    | inr d ↦ elim (below_or_not share sum) [
      | inl l ↦ inr (Full sum, (r, d, refl, l))
      | inr s ↦ inl (r, d, s)
    ]
  ]
]

only_positions : (fault : ValueFault) (sum share : ℕ) → IsRefusal fault too_many sum share → fault ≡ Positions
only_positions Positions sum share r = refl
only_positions Range sum share r = absurd r
only_positions (Depth d) sum share r = absurd r
only_positions (Full n) sum share r = absurd r
only_positions Memory sum share r = absurd r

only_range : (fault : ValueFault) (sum share : ℕ) → IsRefusal fault outside sum share → fault ≡ Range
only_range Range sum share r = refl
only_range Positions sum share r = absurd r
only_range (Depth d) sum share r = absurd r
only_range (Full n) sum share r = absurd r
only_range Memory sum share r = absurd r

one_of_form : (f e : ValueFault) (g : Game) (extra sum share : ℕ) → IsRefusal f (made g extra) sum share
    → IsRefusal e (made g extra) sum share → f ≡ e
one_of_form Range Range g extra sum share r q = refl
one_of_form Range (Depth d) g extra sum share r q = absurd (r q.0)
one_of_form Range (Full n) g extra sum share r q = absurd (r q.0)
one_of_form Range Positions g extra sum share r q = absurd q
one_of_form Range Memory g extra sum share r q = absurd q
one_of_form (Depth d) Range g extra sum share r q = absurd (q r.0)
one_of_form (Depth d) (Depth k) g extra sum share r q = ap Depth (r.1 ∙ sym q.1)
one_of_form (Depth d) (Full n) g extra sum share r q = let a = r.1 in let b = r.2 in let l = q.1 in absurd (omega arith)
one_of_form (Depth d) Positions g extra sum share r q = absurd q
one_of_form (Depth d) Memory g extra sum share r q = absurd q
one_of_form (Full n) Range g extra sum share r q = absurd (q r.0)
one_of_form (Full n) (Depth d) g extra sum share r q = let a = q.1 in let b = q.2 in let l = r.1 in absurd (omega arith)
one_of_form (Full n) (Full m) g extra sum share r q = ap Full (r.2 ∙ sym q.2)
one_of_form (Full n) Positions g extra sum share r q = absurd q
one_of_form (Full n) Memory g extra sum share r q = absurd q
one_of_form Positions e g extra sum share r q = absurd r
one_of_form Memory e g extra sum share r q = absurd r

-- an item is refused for one cause
one_cause : (f e : ValueFault) (item : Item) (sum share : ℕ) → IsRefusal f item sum share
    → IsRefusal e item sum share → f ≡ e
one_cause f e too_many sum share r q = only_positions f sum share r ∙ sym (only_positions e sum share q)
one_cause f e outside sum share r q = only_range f sum share r ∙ sym (only_range e sum share q)
one_cause f e (made g extra) sum share r q = one_of_form f e g extra sum share r q

-- ---- lists

-- the items pass, or one is refused
pub verdict-decided : (share before : ℕ) (items : List Item)
    → ((after : ℕ) × AllPass share before items after) ⊎ ((fault : ValueFault) × (after : ℕ)
    × IsStopped fault share before items after)
verdict-decided share before [] = inl (before, all_pass-none share before)
verdict-decided share before (item ∷ items) =
    elim (decided-item item (before + item_cost item) share) [
      | inr r ↦ inr (r.0, before, stopped-one r.0 share before item items r.1)
      | inl p ↦ elim (verdict-decided share (before + item_cost item) items) [
        | inl rest ↦ inl (
          rest.0,
          all_pass-more share before (before + item_cost item) rest.0 item items
              (all_pass-one share before item p) rest.1,
        )
        | inr rest ↦ inr (
          rest.0,
          rest.1,
          stopped-back rest.0 share before (before + item_cost item) rest.1
              (item ∷ []) items (all_pass-one share before item p) rest.2,
        )
      ]
    ]

pub verdict-passed : (share before : ℕ) (items : List Item) (a b : ℕ) → AllPass share before items a
    → AllPass share before items b → a ≡ b
verdict-passed share before items a b p q = p.spent ∙ sym q.spent

-- what was refused stands at one place
one_place : (f e : ValueFault) (share before : ℕ) (xs : List Item) (x : Item) (rest ys : List Item) (y : Item)
    (others : List Item) (a b : ℕ)
    → xs ++ x ∷ rest ≡ ys ++ y ∷ others → AllPass share before xs a → AllPass share before ys b
    → IsRefusal f x (a + item_cost x) share → IsRefusal e y (b + item_cost y) share → (f ≡ e) × (a ≡ b)
one_place f e share before [] x rest [] y others a b split p q r s =
    let same : y ≡ x = cc in
    let after : a ≡ b = omega (arith, p.spent, q.spent) in
    (one_cause f e x (a + item_cost x) share r (rw after (rw (← same) s)), after)
one_place f e share before [] x rest (y' ∷ ys) y others a b split p q r s =
    let same : x ≡ y' = cc in
    let after : a ≡ before = omega (arith, p.spent) in
    absurd (not_both f x (before + item_cost x) share (rw same (passes-first share before b y' ys q))
    (rw (← after) r))
one_place f e share before (x' ∷ xs) x rest [] y others a b split p q r s =
    let same : y ≡ x' = cc in
    let after : b ≡ before = omega (arith, q.spent) in
    absurd (not_both e y (before + item_cost y) share (rw same (passes-first share before a x' xs p))
    (rw (← after) s))
one_place f e share before (x' ∷ xs) x rest (y' ∷ ys) y others a b split p q r s =
    let same : y' ≡ x' = cc in
    let tails : xs ++ x ∷ rest ≡ ys ++ y ∷ others = cc in
    one_place f e share (before + total (x' ∷ [])) xs x rest ys y others a b tails (all_pass-back share before a
    (x' ∷ []) xs p)
    (rw (← same) (all_pass-back share before b (y' ∷ []) ys q)) r s

pub verdict-stopped : (f e : ValueFault) (share before : ℕ) (items : List Item) (a b : ℕ)
    → IsStopped f share before items a
    → IsStopped e share before items b → (f ≡ e) × (a ≡ b)
verdict-stopped f e share before items a b s t =
    one_place f e share before s.front s.item s.back t.front t.item t.back a b (sym s.split
    ∙ t.split) s.passed t.passed s.refused t.refused

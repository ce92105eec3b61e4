-- The last of the items of a step.
use Rattle.std.proofs.Common.{◌≡◌, refl, ℕ, zero, suc, ◌*◌, ap, sym, ◌∙◌, List, [], ◌∷◌, ◌++◌, append_assoc, map, length, nat_lt, inl, inr}
use Rattle.std.specs.List.{flat_map}
use Rattle.cg_dyadic.proofs.Truth.{true_or_false}
use Rattle.cg_form.specs.Canonical.{Canonical}
use Rattle.cg_dyadic.specs.Number.{Number}
use Rattle.cg_form.specs.Game.{Game, number}
use Rattle.cg_form.specs.Multiple.{multiple}
use Rattle.cg_form.specs.Sum.{sum, negative}
use Rattle.cg_form.specs.Positions.{positions_of}
use Rattle.cg_canon.specs.Items.{AllPass, Item, made, outside, too_many}
use Rattle.cg_canon.specs.SumItems.{sum_items, pair_items, row_items, sum_item, within_limit}
use Rattle.cg_sum.specs.Lists.{negative_items, multiple_items, step_items}
use Rattle.cg_form.proofs.AllPositions.{positions_of-last}
use Rattle.cg_nodes.specs.Can.{can}
use Rattle.cg_nodes.specs.CanLaw.{can-fixed}
use Rattle.cg_sum.proofs.Sums.{can-multiple_more, can-multiple_one, can-multiple_zero}

-- no item of the list is out of range, and none is a list that is too long
pub record AreMade (items : List Item) : Type 0 where
  pub each : (front : List Item) (item : Item) (back : List Item) → items ≡ front ++ item ∷ back
      → (g : Game) × (extra : ℕ) × (item ≡ made g extra)

made_where_passes : (item : Item) (spent share : ℕ) → Rattle.cg_canon.specs.Items.Passes item spent share
    → (g : Game) × (extra : ℕ) × (item ≡ made g extra)
made_where_passes (made g extra) spent share p = (g, extra, refl)
made_where_passes outside spent share p = absurd p
made_where_passes too_many spent share p = absurd p

pub are_made-passed : (share before after : ℕ) (items : List Item) → AllPass share before items after → AreMade items
are_made-passed share before after items p = record {
  each = λ front item back e. made_where_passes item _ share (p.each front item back e);
}

pub are_made-back : (xs ys : List Item) → AreMade (xs ++ ys) → AreMade ys
are_made-back xs ys m = record {
  each = λ front item back e. m.each (xs ++ front) item back
      (ap (λ z. xs ++ z) e ∙ sym (append_assoc xs front (item ∷ back)));
}

pub are_made-front : (xs ys : List Item) → AreMade (xs ++ ys) → AreMade xs
are_made-front xs ys m = record {
  each = λ front item back e. m.each front item (back ++ ys)
      (ap (λ z. z ++ ys) e ∙ append_assoc front (item ∷ back) ys);
}

pub not_outside : AreMade (outside ∷ []) → ⊥
not_outside m = let (g, extra, e) = m.each [] outside [] refl in cc

pub not_too_many : AreMade (too_many ∷ []) → ⊥
not_too_many m = let (g, extra, e) = m.each [] too_many [] refl in cc

-- the last item of the list is this form
pub record EndsIn (g : Game) (items : List Item) : Type 0 where
  pub front : List Item
  pub extra : ℕ
  pub split : items ≡ front ++ (made g extra ∷ [])

pub one_number : (x : Number) → EndsIn (can (number x)) (made (number x) 0 ∷ [])
one_number x = record { front = []; extra = 0; split = ap (λ k. made k 0 ∷ []) (sym (can-fixed (number x) tt)) }

pub ends-back : (g : Game) (xs ys : List Item) → EndsIn g ys → EndsIn g (xs ++ ys)
ends-back g xs ys e = record {
  front = xs ++ e.front;
  extra = e.extra;
  split = ap (λ z. xs ++ z) e.split ∙ sym (append_assoc xs e.front (made g e.extra ∷ []));
}

pub ends-as : (g h : Game) (items : List Item) → g ≡ h → EndsIn g items → EndsIn h items
ends-as g h items s e = rw (← s) e

-- positions, with the game itself last
pub record LastIs (g : Game) (gs : List Game) : Type 0 where
  pub front : List Game
  pub split : gs ≡ front ++ (g ∷ [])

pub last_position : (g : Game) → LastIs g (positions_of g)
last_position g = record { front = _; split = positions_of-last g }

map_last : (f : Game → Item) (g : Game) (gs : List Game) → LastIs g gs
    → (front : List Item) × (map f gs ≡ front ++ (f g ∷ []))
map_last f g gs l = (map f l.front, ap (λ z. map f z) l.split ∙ over l.front)
  where
    over : (hs : List Game) → map f (hs ++ (g ∷ [])) ≡ map f hs ++ (f g ∷ [])
    over [] = refl
    over (h ∷ hs) = ap (λ z. f h ∷ z) (over hs)

pub ends-map : (f : Game → Item) (g k : Game) (extra : ℕ) (gs : List Game) → f g ≡ made k extra → LastIs g gs
    → EndsIn k (map f gs)
ends-map f g k extra gs s l =
    let (front, e) = map_last f g gs l in
    record { front = front; extra = extra; split = e ∙ ap (λ z. front ++ (z ∷ [])) s }

-- the last of a list that is within the limit
pub ends-within : (limit count : ℕ) (g : Game) (items : List Item) → AreMade (within_limit limit count items)
    → EndsIn g items
    → EndsIn g (within_limit limit count items)
ends-within limit count g items m e = elim (true_or_false (nat_lt limit count)) [
  | inl t ↦ absurd (not_too_many (rw t at m))
  | inr f ↦ rw f e
]

-- the form of the negative
pub ends-negative : (limit : ℕ) (g : Game) → AreMade (negative_items limit g)
    → EndsIn (can (negative g)) (negative_items limit g)
ends-negative limit g m =
    ends-within limit (length (positions_of g)) (can (negative g)) (map (λ f. made (can (negative f)) 0)
    (positions_of g)) m
    (ends-map (λ f. made (can (negative f)) 0) g (can (negative g)) 0 (positions_of g) refl (last_position g))

pub append_none : (is : List Item) → is ++ [] ≡ is
append_none [] = refl
append_none (i ∷ is) = ap (λ z. i ∷ z) (append_none is)

flat_map_last : (rows : Game → List Item) (k g : Game) (hs : List Game) → EndsIn k (rows g)
    → EndsIn k (flat_map rows (hs ++ (g ∷ [])))
flat_map_last rows k g [] e = rw (append_none (rows g)) e
flat_map_last rows k g (h ∷ hs) e = ends-back k (rows h) (flat_map rows (hs ++ (g ∷ []))) (flat_map_last rows k g hs e)

ends-flat_map : (rows : Game → List Item) (k g : Game) (gs : List Game) → EndsIn k (rows g) → LastIs g gs
    → EndsIn k (flat_map rows gs)
ends-flat_map rows k g gs e l =
    rw l.split (flat_map_last rows k g l.front e)

-- the form of the sum
pub ends-sum : (limit : ℕ) (g h : Game) → AreMade (sum_items limit g h) → EndsIn (can (sum g h)) (sum_items limit g h)
ends-sum limit g h m =
    ends-within limit (length (positions_of g) * length (positions_of h)) (can (sum g h))
    (pair_items (positions_of g) (positions_of h)) m
    (ends-flat_map (row_items (positions_of h)) (can (sum g h)) g (positions_of g)
    (ends-map (λ k. sum_item g k) h (can (sum g h)) 1 (positions_of h) refl (last_position h)) (last_position g))

-- the form of n + 2 copies
pub ends-steps : (limit n : ℕ) (g : Game) → AreMade (step_items limit (suc n) g)
    → EndsIn (can (multiple (suc (suc n)) g)) (step_items limit (suc n) g)
unfolding step_items
ends-steps limit n g m =
    let one = can (multiple (suc n) g) in
    ends-back (can (multiple (suc (suc n)) g)) (step_items limit n g) (sum_items limit one g)
    (ends-as (can (sum one g)) (can (multiple (suc (suc n)) g)) (sum_items limit one g) (can-multiple_more (suc n) g)
    (ends-sum limit one g (are_made-back (step_items limit n g) (sum_items limit one g) m)))

-- the form of n copies, where the game itself is the last item before
pub ends-multiple : (limit n : ℕ) (g : Game) (items : List Item) → Canonical g → EndsIn g items
    → AreMade (items ++ multiple_items limit n g) → EndsIn (can (multiple n g)) (items ++ multiple_items limit n g)
unfolding step_items
ends-multiple limit zero g items c e m = record {
  front = items;
  extra = 0;
  split = ap (λ k. items ++ (made k 0 ∷ [])) (sym (can-multiple_zero g));
}
ends-multiple limit (suc zero) g items c e m =
    rw (append_none items) (ends-as g (can (multiple 1 g)) items (sym (can-multiple_one g c)) e)
ends-multiple limit (suc (suc n)) g items c e m =
    ends-back (can (multiple (suc (suc n)) g)) items (step_items limit (suc n) g)
    (ends-steps limit n g (are_made-back items (step_items limit (suc n) g) m))

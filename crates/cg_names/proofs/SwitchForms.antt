-- Switches, tinies and minies are canonical.
use Rattle.std.proofs.Common.{◌≡◌, refl, inl, inr, sym, ◌∙◌, subst, [], ◌∷◌, Bool, true, false, not, IsTrue}
use Rattle.cg_dyadic.specs.Cut.{number_at_most}
use Rattle.cg_dyadic.specs.Exact.{number_negative}
use Rattle.cg_dyadic.specs.Number.{Number, NumberLe, number_le}
use Rattle.cg_dyadic.proofs.Negatives.{negative_low}
use Rattle.cg_dyadic.proofs.Truth.{true-or-not}
use Rattle.cg_dyadic.proofs.Values.{less-le, number_le-trans}
use Rattle.cg_form.specs.Canonical.{Canonical}
use Rattle.cg_form.specs.Game.{Among, Game, lefts, number, rights}
use Rattle.cg_form.specs.Side.{AtMost, far, near}
use Rattle.cg_form.specs.Simple.{NoNumber}
use Rattle.cg_form.proofs.Among.{carry}
use Rattle.cg_form.proofs.Numbers.{numbers-le}
use Rattle.cg_form.proofs.Preorder.{le_trans, not_le-left, not_le-right}
use Rattle.cg_form.proofs.Sides.{far_number, not_far, side-numbers, side_trans, side_turned}
use Rattle.cg_names.specs.Named.{mirrored_if, switch_form, tiny_form, tiny_part, zero_form, zero_number}
use Rattle.cg_nimbers.proofs.Infinitesimals.{Slight, slight-no_number, slight-number}
use Rattle.cg_nimbers.proofs.Reducing.{SideReduced, canonical_node}
use Rattle.cg_names.proofs.Infinitesimals.{beyond_zero, slight-from}
use Rattle.cg_names.proofs.Reducing.{canonical_mirrored, far-mirrored, near-mirrored, one_reduced, other-mirrored, zero_reduced}
use Rattle.cg_names.proofs.UpForms.{far_is_near, zero_canonical}

-- ---- options that are numbers

-- one number, that is no worse than a number among the options of the other side
number_reduced : (s : Bool) (g : Game) (x y : Number) → near s g ≡ number x ∷ [] → Among (number y) (far s g)
    → AtMost s (number y) (number x) → SideReduced s g
number_reduced s g x y e m u = one_reduced s g (number x) e (λ b k l.
    let (z, f, v) = far_number s x b k in
    not_far s g (number y) m (side_trans s (number y) (number z) g (side_trans s (number y) (number x) (number z) u v)
    (rw (← f) l)))

-- a game with a Left option that is at least a Right option, both numbers
hot-no_number : (g : Game) (x y : Number) → Among (number x) (lefts g) → Among (number y) (rights g) → NumberLe y x →
    NoNumber g
hot-no_number g x y m n l z e = elim (true-or-not (number_le z x)) [
  | inl u ↦ not_le-left g (number x) m (le_trans g (number z) (number x) e.1 (numbers-le z x u))
  | inr u ↦ not_le-right g (number y) n
      (le_trans (number y) (number z) g (numbers-le y z (number_le-trans y x z l (less-le z x u))) e.0)
]

number_canonical : (x : Number) (a : Game) → Among a (number x ∷ []) → Canonical a
number_canonical x a (inl e) = rw e tt
number_canonical x a (inr m) = absurd m

pub switch-canonical : (x : Number) → NumberLe zero_number x → Canonical (switch_form x)
switch-canonical x l =
    let y : Number = number_negative x in
    let u : NumberLe y x = number_le-trans y zero_number x (negative_low x l) l in
    let g : Game = switch_form x in
    canonical_node (number x ∷ []) (number y ∷ []) (number_reduced true g x y refl (inl refl) (numbers-le y x u))
    (number_reduced false g y x refl (inl refl) (numbers-le y x u)) (hot-no_number g x y (inl refl) (inl refl) u)
    (number_canonical x) (number_canonical y)

-- ---- {0|{0|y}}, or the same with the sides exchanged, where y is no better than 0

record TinyPart (down : Bool) (g : Game) : Type 0 where
  slight : Slight (not down) g
  zero_near : near (not down) g ≡ zero_form ∷ []
  canonical : Canonical g

part : (down : Bool) (y : Number) → IsTrue (number_at_most (not down) y zero_number)
    → TinyPart down (mirrored_if down (zero_form ∷ []) (number y ∷ []))
part down y l =
    let s : Bool = not down in
    let g : Game = mirrored_if down (zero_form ∷ []) (number y ∷ []) in
    let n : near s g ≡ zero_form ∷ [] = near-mirrored down (zero_form ∷ []) (number y ∷ []) in
    let f : far s g ≡ number y ∷ [] = far-mirrored down (zero_form ∷ []) (number y ∷ []) in
    let z : Among zero_form (near s g) = carry zero_form (zero_form ∷ []) (near s g) (sym n) (inl refl) in
    let w : Among (number y) (far s g) = carry (number y) (number y ∷ []) (far s g) (sym f) (inl refl) in
    let under : AtMost down zero_form (number y) = sym (side_turned down (number y) zero_form) ∙ side-numbers s y
    zero_number l in
    record {
      slight = slight-from s g (number y) (λ a m x p k. elim (carry a (near s g) (zero_form ∷ []) n m) [
        | inl e ↦ beyond_zero s x p (rw (← e) k)
        | inr v ↦ v
      ]) w (slight-number s y l);
      zero_near = n;
      canonical = canonical_mirrored down (zero_form ∷ []) (number y ∷ []) (zero_reduced s g n)
          (number_reduced down g y zero_number (other-mirrored down (zero_form ∷ []) (number y ∷ []))
          (carry zero_form (near s g) (far down g) (sym (far_is_near down g)) z) under)
          (slight-no_number s g (number y) z w (slight-number s y l)) zero_canonical (number_canonical y);
    }

whole_of : (down : Bool) (u : Game) → TinyPart down u → Canonical (mirrored_if down (zero_form ∷ []) (u ∷ []))
whole_of down u i =
    let s : Bool = not down in
    let g : Game = mirrored_if down (zero_form ∷ []) (u ∷ []) in
    let n : near s g ≡ zero_form ∷ [] = near-mirrored down (zero_form ∷ []) (u ∷ []) in
    let f : far s g ≡ u ∷ [] = far-mirrored down (zero_form ∷ []) (u ∷ []) in
    let z : Among zero_form (near s g) = carry zero_form (zero_form ∷ []) (near s g) (sym n) (inl refl) in
    canonical_mirrored down (zero_form ∷ []) (u ∷ []) (zero_reduced s g n)
    (one_reduced down g u (other-mirrored down (zero_form ∷ []) (u ∷ [])) (λ b m l.
    elim (carry b (far down u) (zero_form ∷ []) (far_is_near down u ∙ i.zero_near) m) [
      | inl e ↦ let P : Game → Type 0 = λ v. AtMost down v g in
          not_far down g zero_form (carry zero_form (near s g) (far down g) (sym (far_is_near down g)) z) (subst P e l)
      | inr v ↦ v
    ]))
    (slight-no_number s g u z (carry u (u ∷ []) (far s g) (sym f) (inl refl)) i.slight) zero_canonical
    (λ a m. elim m [
      | inl e ↦ let P : Game → Type 0 = λ v. Canonical v in subst P (sym e) i.canonical
      | inr v ↦ absurd
          v
    ])

pub tiny-canonical : (miny : Bool) (x : Number) → NumberLe zero_number x → Canonical (tiny_form miny x)
tiny-canonical false x l = whole_of false _ (part false (number_negative x) (negative_low x l))
tiny-canonical true x l = whole_of true _ (part true x l)

pub tiny_part-canonical : (miny : Bool) (x : Number) → NumberLe zero_number x → Canonical (tiny_part miny x)
tiny_part-canonical false x l = (part false (number_negative x) (negative_low x l)).canonical
tiny_part-canonical true x l = (part true x l).canonical

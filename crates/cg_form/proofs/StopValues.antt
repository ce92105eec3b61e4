-- The stops of a game, from those of its options, bound it.
use Rattle.std.proofs.Common.{◌≡◌, refl, ℕ, ◌<◌, arith, zero, suc, Bool, IsTrue, ap, ◌∙◌, inl, inr, List, [], ◌∷◌, map, pos}
use Rattle.cg_dyadic.specs.Number.{Number, NumberLe, number_le, whole}
use Rattle.cg_dyadic.proofs.Truth.{false-from, true-or-not}
use Rattle.cg_dyadic.proofs.Values.{less-le, number_le-refl, number_le-trans}
use Rattle.cg_form.specs.Game.{Among, Game, lefts, number, rights}
use Rattle.cg_form.specs.Greatest.{greatest_by}
use Rattle.cg_form.specs.Order.{Equal, Le}
use Rattle.cg_form.specs.Simple.{Decided, Decides, NoNumber}
use Rattle.cg_form.specs.Size.{size}
use Rattle.cg_form.specs.Stops.{Stops, greatest_number, least_number, stops, stops_by, stops_within}
use Rattle.cg_form.proofs.Integers.{some_lefts, some_rights}
use Rattle.cg_form.proofs.Preorder.{equal_refl, le_trans, not_le-left, not_le-right}
use Rattle.cg_form.proofs.Simplicity.{le-number, none_fits, number-le}
use Rattle.cg_form.proofs.Size.{size-lefts, size-rights}
use Rattle.cg_form.proofs.Stops.{LeftStop, RightStop, equal-left_stop, equal-right_stop, greater-left_stop}
use Rattle.cg_form.proofs.Stops.{less-right_stop, number-left_stop, number-right_stop, stops-ordered}

-- ---- the greatest of a list

-- p is one of the list's numbers, and the greatest in the order
pub record TopBy (le : Number → Number → Bool) (f : Game → Number) (gs : List Game) (p : Number) : Type 0 where
  pub at : Game
  pub there : Among at gs
  pub is : p ≡ f at
  pub most : (a : Game) → Among a gs → IsTrue (le (f a) p)

abbrev pub TopOf : (Game → Number) → List Game → Number → Type 0
TopOf f gs p = TopBy number_le f gs p

abbrev pub BottomOf : (Game → Number) → List Game → Number → Type 0
BottomOf f gs p = TopBy (λ x y. number_le y x) f gs p

module _ (le : Number → Number → Bool) (same : (x : Number) → IsTrue (le x x))
    (trans : (x y z : Number) → IsTrue (le x y) → IsTrue (le y z) → IsTrue (le x z))
    (total : (x y : Number) → ¬ IsTrue (le x y) → IsTrue (le y x)) (f : Game → Number) where
  top_by : (g : Game) (gs : List Game) → TopBy le f (g ∷ gs) (greatest_by le (whole (pos 0)) (map f (g ∷ gs)))
  top_by g [] = record {
    at = g;
    there = inl refl;
    is = refl;
    most = λ a m. elim m [ inl e ↦ rw e (same (f g)) | inr k ↦ absurd k ];
  }
  top_by g (h ∷ hs) =
      let r = top_by h hs in
      let q : Number = greatest_by le (whole (pos 0)) (map f (h ∷ hs)) in
      elim (true-or-not (le (f g) q)) [
        | inl t ↦ rw t (record {
          at = r.at;
          there = inr r.there;
          is = r.is;
          most = λ a m. elim m [ inl e ↦ rw e t | inr k ↦ r.most a k ];
        })
        | inr n ↦ rw (false-from (le (f g) q) n) (record {
          at = g;
          there = inl refl;
          is = refl;
          most = λ a m. elim m [
            | inl e ↦ rw e (same (f g))
            | inr k ↦ trans (f a) q (f g) (r.most a k) (total (f g) q n)
          ];
        })
      ]

pub top_of : (f : Game → Number) (g : Game) (gs : List Game) → TopOf f (g ∷ gs) (greatest_number (map f (g ∷ gs)))
top_of f g gs = top_by number_le number_le-refl number_le-trans less-le f g gs

pub bottom_of : (f : Game → Number) (g : Game) (gs : List Game) → BottomOf f (g ∷ gs) (least_number (map f (g ∷ gs)))
bottom_of f g gs = top_by (λ x y. number_le y x) number_le-refl (λ x y z p q. number_le-trans z y x q p)
    (λ x y n. less-le y x n) f g gs

-- ---- the stops of a game that equals no number

left_top : (g : Game) (f : Game → Number) (p : Number) → NoNumber g
    → ((a : Game) → Among a (lefts g) → RightStop a (f a)) → TopOf f (lefts g) p → LeftStop g p
left_top g f p never rs t = record {
  high = λ x h. le-number g x (λ y w k. none_fits g never y k)
      (λ a m k. (rs a m).high x (λ l. h (number_le-trans x (f a) p l (t.most a m))) k);
  low = λ x h k. not_le-left g t.at t.there
      (le_trans g (number x) t.at k ((rs t.at t.there).low x (λ l. h (rw t.is l))));
}

right_bottom : (g : Game) (f : Game → Number) (p : Number) → NoNumber g
    → ((b : Game) → Among b (rights g) → LeftStop b (f b)) → BottomOf f (rights g) p → RightStop g p
right_bottom g f p never ls t = record {
  low = λ x h. number-le x g (λ y w k. none_fits g never y k)
      (λ b m k. (ls b m).low x (λ l. h (number_le-trans p (f b) x (t.most b m) l)) k);
  high = λ x h k. not_le-right g t.at t.there
      (le_trans t.at (number x) g ((ls t.at t.there).high x (λ l. h (rw t.is l))) k);
}

pub record StopsOf (g : Game) (s : Stops) : Type 0 where
  pub left : LeftStop g s.left
  pub right : RightStop g s.right

left_of : (g : Game) (f : Game → Number) (gs : List Game) → lefts g ≡ gs → NoNumber g
    → ((a : Game) → Among a (lefts g) → RightStop a (f a)) → LeftStop g (greatest_number (map f (lefts g)))
left_of g f [] e never rs = absurd (some_lefts g never e)
left_of g f (a ∷ gs) e never rs = left_top g f (greatest_number (map f (lefts g))) never rs (rw e (top_of f a gs))

right_of : (g : Game) (f : Game → Number) (gs : List Game) → rights g ≡ gs → NoNumber g
    → ((b : Game) → Among b (rights g) → LeftStop b (f b)) → RightStop g (least_number (map f (rights g)))
right_of g f [] e never rs = absurd (some_rights g never e)
right_of g f (a ∷ gs) e never rs = right_bottom g f (least_number (map f (rights g))) never rs (rw e (bottom_of f a gs))

pub stops_from : (g : Game) (c : Decided g) (l r : Game → Number) → ((a : Game) → Among a (lefts g) → RightStop a (l a))
    → ((b : Game) → Among b (rights g) → LeftStop b (r b))
    → StopsOf g (stops_by g c (record {
      left = greatest_number (map l (lefts g));
      right = least_number (map r (rights g));
    }))
stops_from g (inl w) l r f h = record { left = number-left_stop w.0 g w.1; right = number-right_stop w.0 g w.1 }
stops_from g (inr never) l r f h =
    record { left = left_of g l (lefts g) refl never f; right = right_of g r (rights g) refl never h }

pub stops_within-are : (d : Decides) (n : ℕ) (g : Game) → size g < n → StopsOf g (stops_within d n g)
unfolding stops_within
stops_within-are d zero g s = absurd (omega arith)
stops_within-are d (suc n) g s = stops_from g (d g) (λ a. (stops_within d n a).right) (λ b. (stops_within d n b).left)
    (λ a m. let t = size-lefts g a m in (stops_within-are d n a (omega arith)).right)
    (λ b m. let t = size-rights g b m in (stops_within-are d n b (omega arith)).left)

pub stops-are : (d : Decides) (g : Game) → StopsOf g (stops d g)
unfolding stops
stops-are d g = stops_within-are d (suc (size g)) g (omega arith)

stops_same : (s t : Stops) → s.left ≡ t.left → s.right ≡ t.right → s ≡ t
stops_same s t p q = ap (λ z. let r : Stops = record { left = z; right = s.right } in r) p
    ∙ ap (λ z. let r : Stops = record { left = t.left; right = z } in r) q

-- stops of equal games are the same
stops_of-equal : (g h : Game) (s t : Stops) → StopsOf g s → StopsOf h t → Equal g h → s ≡ t
stops_of-equal g h s t p q e = stops_same s t (equal-left_stop g h s.left t.left p.left q.left e)
    (equal-right_stop g h s.right t.right p.right q.right e)

-- the stops, from the options
pub stops-options : (d : Decides) (g : Game) → stops d g ≡ stops_by g (d g) (record {
  left = greatest_number (map (λ a. (stops d a).right) (lefts g));
  right = least_number (map (λ b. (stops d b).left) (rights g));
})
stops-options d g = stops_of-equal g g (stops d g) _ (stops-are d g)
    (stops_from g (d g) (λ a. (stops d a).right) (λ b. (stops d b).left)
    (λ a m. (stops-are d a).right) (λ b m. (stops-are d b).left)) (equal_refl g)

-- ---- the laws

pub stops_ordered : (d : Decides) (g : Game) → NumberLe (stops d g).right (stops d g).left
stops_ordered d g = let s = stops-are d g in stops-ordered g (stops d g).left (stops d g).right s.left s.right

pub below_right_stop : (d : Decides) (g : Game) (x : Number) → ¬ NumberLe (stops d g).right x
    → Le (number x) g × (¬ Le g (number x))
below_right_stop d g x h = less-right_stop g (stops d g).right x (stops-are d g).right h

pub above_left_stop : (d : Decides) (g : Game) (x : Number) → ¬ NumberLe x (stops d g).left
    → Le g (number x) × (¬ Le (number x) g)
above_left_stop d g x h = greater-left_stop g (stops d g).left x (stops-are d g).left h

-- also by different deciders
pub equal_stops : (d e : Decides) (g h : Game) → Equal g h → stops d g ≡ stops e h
equal_stops d e g h q = stops_of-equal g h (stops d g) (stops e h) (stops-are d g) (stops-are e h) q

pub stops_unique : (d e : Decides) (g : Game) → stops d g ≡ stops e g
stops_unique d e g = equal_stops d e g g (equal_refl g)

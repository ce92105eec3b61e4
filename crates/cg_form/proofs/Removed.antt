-- Removing a dominated option, bypassing a reversible one and replacing an option by an equal one keep the value, on
-- either side.
use Rattle.std.proofs.Common.{◌≡◌, refl, inl, inr, sym, ◌∙◌, List, ◌∷◌, ◌++◌, Bool, true, false}
use Rattle.cg_dyadic.specs.Number.{Number}
use Rattle.cg_form.specs.Bypass.{Covered, bypassed, kept, under}
use Rattle.cg_form.specs.Canonical.{LeftAbove, RightBelow}
use Rattle.cg_form.specs.Game.{Among, Game, lefts, node, number, rights}
use Rattle.cg_form.specs.Order.{Equal, Le}
use Rattle.cg_form.specs.Side.{AtMost, far, near}
use Rattle.cg_form.specs.Simple.{NoNumber}
use Rattle.cg_form.proofs.Among.{among-append, among-append_left, among-append_right, carry, in_others, lefts-node, of_others, rights-node}
use Rattle.cg_form.proofs.Bypass.{covered_equal, through_number}
use Rattle.cg_form.proofs.Preorder.{le_trans, not_le-left, not_le-right}
use Rattle.cg_form.proofs.Sides.{near_number, not_near, side_equal, side_trans}
use Rattle.cg_form.proofs.Simplicity.{none_fits}

replaced : (s : Bool) (g h : Game) → ((x : Game) → Among x (near s g) → Covered s g (near s h) x)
    → ((x : Game) → Among x (near s h) → ¬ AtMost s g x) → far s g ≡ far s h → Equal g h
replaced true g h c n e =
    covered_equal g h c n (λ b m. kept (carry b (rights g) (rights h) e m))
    (λ y m. not_le-right g y (carry y (rights h) (rights g) (sym e) m))
replaced false g h c n e =
    covered_equal g h (λ b m. kept (carry b (lefts g) (lefts h) e m))
    (λ y m. not_le-left g y (carry y (lefts h) (lefts g) (sym e) m)) c n

pub removed : (s : Bool) (g h : Game) (us vs : List Game) (a b : Game) → near s g ≡ us ++ (a ∷ vs)
    → near s h ≡ us ++ vs → far s g ≡ far s h → Among b (us ++ vs) → AtMost s a b → Equal g h
removed s g h us vs a b eg eh f m l = replaced s g h
    (λ x w. elim (in_others x a us vs (carry x (near s g) (us ++ (a ∷ vs)) eg w)) [
      | inl e ↦ rw e (under b (carry b (us ++ vs) (near s h) (sym eh) m) l)
      | inr k ↦ kept (carry x (us ++ vs) (near s h) (sym eh) k)
    ])
    (λ x w. not_near s g x (carry x (us ++ (a ∷ vs)) (near s g) (sym eg)
    (of_others x a us vs (carry x (near s h) (us ++ vs) eh w))))
    f

pub bypassed_once : (s : Bool) (g h : Game) (us vs : List Game) (a b : Game) → near s g ≡ us ++ (a ∷ vs)
    → near s h ≡ us ++ (near s b ++ vs) → far s g ≡ far s h → Among b (far s a) → AtMost s b g → Equal g h
bypassed_once s g h us vs a b eg eh f m l = replaced s g h
    (λ x w. elim (among-append x us (a ∷ vs) (carry x (near s g) (us ++ (a ∷ vs)) eg w)) [
      | inl k ↦ kept (carry x (us ++ (near s b ++ vs)) (near s h) (sym eh) (among-append_left x us (near s b ++ vs) k))
      | inr (inl e) ↦ rw e (bypassed b m l (λ c k. kept (carry c (us ++ (near s b ++ vs)) (near s h) (sym eh)
          (among-append_right c us (near s b ++ vs) (among-append_left c (near s b) vs k)))))
      | inr (inr k) ↦ kept (carry x (us ++ (near s b ++ vs)) (near s h) (sym eh)
          (among-append_right x us (near s b ++ vs) (among-append_right x (near s b) vs k)))
    ])
    (λ x w. elim (among-append x us (near s b ++ vs) (carry x (near s h) (us ++ (near s b ++ vs)) eh w)) [
      | inl k ↦ not_near s g x (carry x (us ++ (a ∷ vs)) (near s g) (sym eg) (among-append_left x us (a ∷ vs) k))
      | inr k ↦ elim (among-append x (near s b) vs k) [
        | inl j ↦ (λ q. not_near s b x j (side_trans s b g x l q))
        | inr j ↦ not_near s g x (carry x (us ++ (a ∷ vs)) (near s g) (sym eg)
            (among-append_right x us (a ∷ vs) (inr j)))
      ]
    ])
    f

pub left_removed : (us vs rs : List Game) (a b : Game) → Among b (us ++ vs) → Le a b
    → Equal (node (us ++ (a ∷ vs)) rs) (node (us ++ vs) rs)
left_removed us vs rs a b m l =
    removed true (node (us ++ (a ∷ vs)) rs) (node (us ++ vs) rs) us vs a b (lefts-node (us ++ (a ∷ vs)) rs)
    (lefts-node (us ++ vs) rs) (rights-node (us ++ (a ∷ vs)) rs ∙ sym (rights-node (us ++ vs) rs)) m l

pub right_removed : (ls us vs : List Game) (a b : Game) → Among b (us ++ vs) → Le b a
    → Equal (node ls (us ++ (a ∷ vs))) (node ls (us ++ vs))
right_removed ls us vs a b m l =
    removed false (node ls (us ++ (a ∷ vs))) (node ls (us ++ vs)) us vs a b (rights-node ls (us ++ (a ∷ vs)))
    (rights-node ls (us ++ vs)) (lefts-node ls (us ++ (a ∷ vs)) ∙ sym (lefts-node ls (us ++ vs))) m l

pub left_bypassed : (us vs rs : List Game) (a b : Game) → Among b (rights a) → Le b (node (us ++ (a ∷ vs)) rs)
    → Equal (node (us ++ (a ∷ vs)) rs) (node (us ++ (lefts b ++ vs)) rs)
left_bypassed us vs rs a b m l =
    bypassed_once true (node (us ++ (a ∷ vs)) rs) (node (us ++ (lefts b ++ vs)) rs) us vs a b
    (lefts-node (us ++ (a ∷ vs)) rs) (lefts-node (us ++ (lefts b ++ vs)) rs) (rights-node (us ++ (a ∷ vs)) rs
    ∙ sym (rights-node (us ++ (lefts b ++ vs)) rs)) m l

pub right_bypassed : (ls us vs : List Game) (a b : Game) → Among b (lefts a) → Le (node ls (us ++ (a ∷ vs))) b
    → Equal (node ls (us ++ (a ∷ vs))) (node ls (us ++ (rights b ++ vs)))
right_bypassed ls us vs a b m l =
    bypassed_once false (node ls (us ++ (a ∷ vs))) (node ls (us ++ (rights b ++ vs))) us vs a b
    (rights-node ls (us ++ (a ∷ vs))) (rights-node ls (us ++ (rights b ++ vs))) (lefts-node ls (us ++ (a ∷ vs))
    ∙ sym (lefts-node ls (us ++ (rights b ++ vs)))) m l

-- ---- equal options

pub swapped : (s : Bool) (g h : Game) (us vs : List Game) (a b : Game) → near s g ≡ us ++ (a ∷ vs)
    → near s h ≡ us ++ (b ∷ vs) → far s g ≡ far s h → Equal a b → Equal g h
swapped s g h us vs a b eg eh f e = replaced s g h
    (λ x w. elim (in_others x a us vs (carry x (near s g) (us ++ (a ∷ vs)) eg w)) [
      | inl p ↦ rw p (under b (carry b (us ++ (b ∷ vs)) (near s h) (sym eh) (among-append_right b us (b ∷ vs) (inl refl)))
          (side_equal s a b e))
      | inr k ↦ kept (carry x (us ++ (b ∷ vs)) (near s h) (sym eh) (of_others x b us vs k))
    ])
    (λ x w. elim (in_others x b us vs (carry x (near s h) (us ++ (b ∷ vs)) eh w)) [
      | inl p ↦ (λ l.
          not_near s g a (carry a (us ++ (a ∷ vs)) (near s g) (sym eg) (among-append_right a us (a ∷ vs) (inl refl)))
          (side_trans s g b a (rw p at l) (side_equal s b a (e.1, e.0))))
      | inr k ↦ not_near s g x (carry x (us ++ (a ∷ vs)) (near s g) (sym eg) (of_others x a us vs k))
    ])
    f

pub left_swapped : (us vs rs : List Game) (a b : Game) → Equal a b
    → Equal (node (us ++ (a ∷ vs)) rs) (node (us ++ (b ∷ vs)) rs)
left_swapped us vs rs a b e =
    swapped true (node (us ++ (a ∷ vs)) rs) (node (us ++ (b ∷ vs)) rs) us vs a b (lefts-node (us ++ (a ∷ vs)) rs)
    (lefts-node (us ++ (b ∷ vs)) rs) (rights-node (us ++ (a ∷ vs)) rs ∙ sym (rights-node (us ++ (b ∷ vs)) rs)) e

pub right_swapped : (ls us vs : List Game) (a b : Game) → Equal a b
    → Equal (node ls (us ++ (a ∷ vs))) (node ls (us ++ (b ∷ vs)))
right_swapped ls us vs a b e =
    swapped false (node ls (us ++ (a ∷ vs))) (node ls (us ++ (b ∷ vs))) us vs a b (rights-node ls (us ++ (a ∷ vs)))
    (rights-node ls (us ++ (b ∷ vs))) (lefts-node ls (us ++ (a ∷ vs)) ∙ sym (lefts-node ls (us ++ (b ∷ vs)))) e

-- ---- options that are reversible through a number

pub left_above : (g a : Game) (x : Number) → NoNumber g → Among a (lefts g) → Among (number x) (rights a)
    → Le (number x) g → LeftAbove g a x
left_above g a x never m w l =
    let (c, k, t, n) = through_number true g a x (none_fits g never x) m w l in
    record {
      by = c;
      option = k;
      other = n;
      above = t;
      dominates =
          λ d i. le_trans d (number x) c (near_number true x d i) t;
    }

pub right_below : (g a : Game) (x : Number) → NoNumber g → Among a (rights g) → Among (number x) (lefts a)
    → Le g (number x) → RightBelow g a x
right_below g a x never m w l =
    let (c, k, t, n) = through_number false g a x (none_fits g never x) m w l in
    record {
      by = c;
      option = k;
      other = n;
      below = t;
      dominates =
          λ d i. le_trans c (number x) d t (near_number false x d i);
    }

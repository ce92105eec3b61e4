-- The numbers and counts of a name are in range where the numbers of the game are, and its depth is.
use Rattle.std.proofs.Common.{◌≡◌, ap, ◌∙◌, ℕ, zero, suc, ◌^◌, ◌<◌, ◌≤◌, arith, inl, inr, List, [], ◌∷◌, Bool, true, false, unsigned_abs, neg_ℤ}
use Rattle.std.proofs.lemmas.Int.{ints}
use Rattle.cg_dyadic.specs.Number.{InRange, Number, num_of}
use Rattle.cg_form.specs.Depth.{deepest_of, depth_of}
use Rattle.cg_form.specs.Game.{Among, Game, Games, more, node, none, number, of_list, options}
use Rattle.cg_form.specs.Shifted.{shifted}
use Rattle.cg_dyadic.specs.Exact.{number_negative}
use Rattle.cg_names.specs.Named.{mirrored_if, nimber_form, nimbers_below, switch_form, tiny_form, ups_of}
use Rattle.cg_names.specs.Reading.{AreNamesInRange, IsNameInRange, IsNamedInRange}
use Rattle.cg_nodes.specs.Ranges.{AllInRange, AreInRange}
use Rattle.cg_names.specs.Readings.{stars_above}
use Rattle.cg_names.specs.Shapes.{HasForm}
use Rattle.cg_names.specs.declared.named_form.NamedForm.{NamedForm}
use Rattle.cg_names.specs.declared.named_form.NamedForm.TheVariants.{Star, Arrows, Switch, Tiny}
use Rattle.cg_names.proofs.Guessing.{above_zero}
use Rattle.cg_names.proofs.NameRule.{fits-form}
use Rattle.cg_nimbers.proofs.NimberLists.{nimber_among}
use Rattle.cg_names.proofs.NamedFormLists.{both_is, depth-shifted, depth-ups, nimber_next, star_above, star_over, stars_first, step_is}
use Rattle.cg_dyadic.proofs.Negatives.{negative-of}

-- ---- counts

deepest-member : (gs : List Game) (a : Game) → Among a gs → depth_of a ≤ deepest_of (of_list gs)
deepest-member [] a m = absurd m
deepest-member (g ∷ gs) a (inl e) = let d : depth_of a ≡ depth_of g = ap depth_of e in omega arith
deepest-member (g ∷ gs) a (inr m) = let d = deepest-member gs a m in omega arith

nimber_deep : (n : ℕ) → n ≤ depth_of (nimber_form n)
nimber_deep zero = omega arith
nimber_deep (suc n) =
    let d = deepest-member (nimbers_below (suc n)) (nimber_form n) (nimber_among n (suc n) (omega arith)) in
    let i = nimber_deep n in
    let e : depth_of (nimber_form (suc n)) ≡ depth_of (node (nimbers_below (suc n)) (nimbers_below (suc n))) =
    ap depth_of (nimber_next n) in
    omega arith

-- ---- numbers

front_left : (x : Number) (ls rs : List Game) → AllInRange (node (number x ∷ ls) rs) → InRange x
front_left x ls rs a = a.0.0

front_own : (down : Bool) (x : Number) (ls rs : List Game) → AllInRange (mirrored_if down (number x ∷ ls) rs) → InRange x
front_own false x ls rs a = a.0.0
front_own true x ls rs a = a.1.0

turned_range : (x : Number) → InRange (number_negative x) → InRange x
turned_range x r =
    let n = negative-of x in
    let a : unsigned_abs (num_of (number_negative x)) ≡ unsigned_abs (neg_ℤ (num_of x)) = ap unsigned_abs n.num in
    let s = r.small in
    let t = r.short in
    let e = n.exp in
    record { small = omega (arith, ints); short = omega arith }

at : (g h : Game) → g ≡ h → AllInRange g → AllInRange h
at g h e a = rw (← e) a

star_range : (g : Game) (x : Number) (n : ℕ) → g ≡ shifted x (nimber_form (suc n)) → AllInRange g → InRange x
star_range g x n e a =
    let (gs, p) = stars_first x n in
    front_left x gs (stars_above x (suc n)) (at g (node (number x ∷ gs) (stars_above x (suc n)))
    (e ∙ star_over x n ∙ ap (λ z. node z (stars_above x (suc n))) p) a)

arrows_range : (g : Game) (down starred : Bool) (x : Number) (n : ℕ) → g ≡ shifted x (ups_of down starred (suc n))
    → AllInRange g → InRange x
arrows_range g down true x zero e a = front_own down x (star_above x ∷ []) (number x ∷ [])
    (at g _ (e ∙ both_is down x) a)
arrows_range g down false x zero e a = front_own down x [] _ (at g _ (e ∙ step_is down false x zero tt) a)
arrows_range g down starred x (suc n) e a = front_own down x [] _ (at g _ (e ∙ step_is down starred x (suc n) tt) a)

tiny_range : (miny : Bool) (x : Number) → AllInRange (tiny_form miny x) → InRange x
tiny_range false x a = turned_range x a.1.0.1.0
tiny_range true x a = a.0.0.0.0

named_range : (g : Game) (s : NamedForm) → HasForm g s → AllInRange g → depth_of g < 10 ^ 30 → IsNamedInRange s
named_range g (Star x n) h a d =
    let (m, e) = above_zero n h.proper in
    let f = rw e at h.form in
    let deep : depth_of g ≡ depth_of (nimber_form n) = ap depth_of h.form ∙ depth-shifted x (nimber_form n) in
    let l = nimber_deep n in
    (star_range g x m f a, omega arith)
named_range g (Arrows down starred x n) h a d =
    let (m, e) = above_zero n h.proper in
    let f = rw e at h.form in
    let deep : depth_of g ≡ suc (suc m) =
    ap depth_of f ∙ depth-shifted x (ups_of down starred (suc m)) ∙ depth-ups down starred m in
    (arrows_range g down starred x m f a, omega arith)
named_range g (Switch x) h a d = front_left x [] (number (number_negative x) ∷ []) (at g (switch_form x) h.form a)
named_range g (Tiny miny x) h a d = tiny_range miny x (at g (tiny_form miny x) h.form a)

-- ---- whole names

mutual
  pub name_range : (g : Game) → AllInRange g → depth_of g < 10 ^ 30 → IsNameInRange g
  name_range (number x) a d = a
  name_range (options ls rs) a d = (
    (λ s f. named_range (options ls rs) s (fits-form s (options ls rs) f) a d),
    (λ n. (names_range ls a.0 (omega arith), names_range rs a.1 (omega arith))),
  )

  names_range : (gs : Games) → AreInRange gs → deepest_of gs < 10 ^ 30 → AreNamesInRange gs
  names_range none a d = tt
  names_range (more g gs) a d = (name_range g a.0 (omega arith), names_range gs a.1 (omega arith))

-- Lists of games of which no two are comparable: the options of a canonical form, and their sums and negatives.
use Rattle.std.proofs.Common.{◌≡◌, ◌⊎◌, refl, ℕ, zero, suc, ◌<◌, arith, inl, inr, sym, ◌∙◌, List, [], ◌∷◌, ◌++◌, get_or, length, map}
use Rattle.std.proofs.lemmas.Bool.{cases_lt}
use Rattle.std.proofs.lemmas.List.{get_or-map, length-map}
use Rattle.std.proofs.Math.Seq.{drop-append_seam, take-append_seam}
use Rattle.cg_arena.specs.Terms.{NoneComparable, NoneComparableByTerm}
use Rattle.cg_form.specs.Canonical.{Canonical}
use Rattle.cg_form.specs.Game.{Among, Game, number, options, to_list}
use Rattle.cg_form.specs.Order.{Le}
use Rattle.cg_form.specs.Structure.{Before, Rises}
use Rattle.cg_form.specs.Sum.{negative, sum}
use Rattle.cg_form.proofs.Best.{append_nil}
use Rattle.cg_nodes.specs.Can.{can}
use Rattle.cg_form.proofs.Negative.{le-negative}
use Rattle.cg_form.proofs.Preorder.{le_trans}
use Rattle.cg_form.proofs.Structure.{before_not_same}
use Rattle.cg_form.proofs.SumLaws.{le-sum_second}
use Rattle.cg_form.proofs.SumOrder.{le-sum}
use Rattle.cg_nodes.specs.CanLaw.{can-equal}
use Rattle.cg_sum.specs.Written.{written_lefts, written_rights}
use Rattle.cg_sum.proofs.Sums.{option_forms}

-- ---- the options of a canonical form

item_among : (gs : List Game) (i : ℕ) (d : Game) → i < length gs → Among (get_or gs i d) gs
item_among [] i d l = absurd (omega arith)
item_among (g ∷ gs) zero d l = inl refl
item_among (g ∷ gs) (suc i) d l = inr (item_among gs i d (omega arith))

rises-places : (gs : List Game) (i j : ℕ) (d : Game) → Rises gs → i < j → j < length gs → Before (get_or gs i d) (get_or gs j d)
rises-places [] i j d r l n = absurd (omega arith)
rises-places (g ∷ gs) i zero d r l n = absurd (omega arith)
rises-places (g ∷ gs) zero (suc j) d r l n = r.0 (get_or gs j d) (item_among gs j d (omega arith))
rises-places (g ∷ gs) (suc i) (suc j) d r l n = rises-places gs i j d r.1 (omega arith) (omega arith)

places_differ : (gs : List Game) (i j : ℕ) (d : Game) → Rises gs → i < length gs → j < length gs → ¬ (i ≡ j)
    → ¬ (get_or gs i d ≡ get_or gs j d)
places_differ gs i j d r l n o e = elim (cases_lt i j) [
  | inl less ↦ before_not_same (get_or gs i d) (get_or gs j d) (rises-places gs i j d r less n) e
  | inr not_less ↦
      let more : j < i = omega arith in
      before_not_same (get_or gs j d) (get_or gs i d) (rises-places gs j i d r more l) (sym e)
]

none_of_none : NoneComparable []
none_of_none = record { each = λ i j d l n o. absurd (omega (arith, l)) }

pub lefts_apart : (g : Game) → Canonical g → NoneComparable (written_lefts g)
lefts_apart (number x) c = none_of_none
lefts_apart (options ls rs) c = record {
  each = λ i j d l n o le.
      let gs = to_list ls in
      c.0.left_undominated (get_or gs i d) (item_among gs i d l) (record {
        by = get_or gs j d;
        option = item_among gs j d n;
        other = places_differ gs i j d c.0.lefts_rise l n o;
        worse = le;
      });
}

pub rights_apart : (g : Game) → Canonical g → NoneComparable (written_rights g)
rights_apart (number x) c = none_of_none
rights_apart (options ls rs) c = record {
  each = λ i j d l n o le.
      let gs = to_list rs in
      c.0.right_undominated (get_or gs j d) (item_among gs j d n) (record {
        by = get_or gs i d;
        option = item_among gs i d l;
        other = λ e. places_differ gs i j d c.0.rights_rise l n o (sym e);
        worse = le;
      });
}

-- ---- forms of what is made of them

-- the order of what is made of two games tells theirs, the one way or the other
none_mapped : (F : Game → Game) (gs : List Game) → ((a b : Game) → Le (F a) (F b) → Le a b ⊎ Le b a) → NoneComparable gs
    → NoneComparable (map F gs)
none_mapped F gs tells h = record {
  each = λ i j d l n o le.
      let count = length-map gs F in
      let k : i < length gs = omega (arith, l) in
      let m : j < length gs = omega (arith, n) in
      let made : Le (F (get_or gs i d)) (F (get_or gs j d)) = rw (← (get_or-map F gs i d d k)) (rw (← (get_or-map F gs j d d m)) le) in
      elim (tells (get_or gs i d) (get_or gs j d) made) [
        | inl up ↦ h.each i j d k m o up
        | inr down ↦ h.each j i d m k (λ e. o (sym e)) down
      ];
}

-- forms keep the order
can-le : (a b : Game) → Le (can a) (can b) → Le a b
can-le a b h =
    let e = can-equal a in
    let f = can-equal b in
    le_trans a (can a) b e.1 (le_trans (can a) (can b) b h f.0)

firsts_apart : (h : Game) (gs : List Game) → NoneComparable gs → NoneComparable (map (λ a. can (sum a h)) gs)
firsts_apart h gs none = none_mapped (λ a. can (sum a h)) gs (λ a b l. inl (le-sum a b h (can-le (sum a h) (sum b h) l))) none

seconds_apart : (g : Game) (hs : List Game) → NoneComparable hs → NoneComparable (map (λ c. can (sum g c)) hs)
seconds_apart g hs none =
    none_mapped (λ c. can (sum g c)) hs (λ a b l. inl (le-sum_second a b g (can-le (sum g a) (sum g b) l))) none

negatives_apart : (gs : List Game) → NoneComparable gs → NoneComparable (map (λ a. can (negative a)) gs)
negatives_apart gs none =
    none_mapped (λ a. can (negative a)) gs (λ a b l. inr (le-negative b a (can-le (negative a) (negative b) l))) none

-- ---- by terms

apart_by_seam : (xs ys : List Game) → NoneComparable xs → NoneComparable ys → NoneComparableByTerm (length xs) (xs ++ ys)
apart_by_seam xs ys h k =
    record { first = rw (take-append_seam xs ys) h; second = rw (drop-append_seam xs ys) k }

-- the sums of the options of g and h, on one side
pub sum_apart : (g h : Game) (gs hs : List Game) (n : ℕ) → n ≡ length gs → NoneComparable gs → NoneComparable hs
    → NoneComparableByTerm n (option_forms g h gs hs)
sum_apart g h gs hs n e none others =
    let firsts = map (λ a. can (sum a h)) gs in
    let seconds = map (λ c. can (sum g c)) hs in
    rw (← (length-map gs (λ a. can (sum a h)) ∙ sym e))
    (apart_by_seam firsts seconds (firsts_apart h gs none) (seconds_apart g hs others))

pub negative_apart : (gs : List Game) (n : ℕ) → n ≡ length gs → NoneComparable gs
    → NoneComparableByTerm n (map (λ a. can (negative a)) gs)
negative_apart gs n e none =
    let made = map (λ a. can (negative a)) gs in
    rw (← (append_nil made)) (rw (← (length-map gs (λ a. can (negative a)) ∙ sym e))
    (apart_by_seam made [] (negatives_apart gs none) none_of_none))

-- The last of the items of an expression.
use Rattle.std.proofs.Common.{◌≡◌, refl, ℕ, zero, suc, ◌+◌, pos, ap, sym, subst, List, [], ◌∷◌, ◌++◌, append_assoc, length, map, Bool, true, false}
use Rattle.std.proofs.Common.{nat_lt, inl, inr, Option, Some, None, Result, Ok, Err}
use Rattle.cg_dyadic.specs.Number.{Number, whole}
use Rattle.cg_dyadic.proofs.Truth.{true_or_false}
use Rattle.cg_form.specs.Canonical.{Canonical}
use Rattle.cg_form.specs.Game.{Game, number as plain_number}
use Rattle.cg_form.specs.Multiple.{multiple as many}
use Rattle.cg_form.specs.Order.{Equal}
use Rattle.cg_form.specs.Sum.{sum as plus, negative as minus}
use Rattle.cg_nodes.specs.Can.{can}
use Rattle.cg_form.proofs.EqualGames.{sum_equal}
use Rattle.cg_form.proofs.Negative.{negative-le}
use Rattle.cg_form.proofs.Preorder.{equal_refl}
use Rattle.cg_form.specs.Positions.{positions_of}
use Rattle.cg_canon.specs.Items.{Item, made}
use Rattle.cg_canon.specs.SumItems.{sum_items}
use Rattle.cg_sum.specs.Lists.{negative_items, multiple_items}
use Rattle.cg_nodes.proofs.Forms.{can-same}
use Rattle.cg_nodes.specs.CanLaw.{can-canonical, can-equal, can-fixed}
use Rattle.cg_names.specs.Lists.{form_items, number_items, plain_item}
use Rattle.cg_canon.specs.NumberItems.{number_made}
use Rattle.cg_names.specs.Meaning.{fraction, literal, signed, or_zero}
use Rattle.cg_names.specs.Meaning.{meaning as meaning_by}
use Rattle.cg_eval.specs.Meaning.{meaning, total, total_with}
use Rattle.cg_names.specs.Named.{nimber_form, ups_form, switch_form, tiny_form}
use Rattle.cg_query.specs.Tree.{Tree, Terms, number, ups, nimber, switch, tiny, sides, negative, multiple, sum, game, octal, used, no_terms, with_term}
use Rattle.cg_octal.specs.Codes.{OctalHeap}
use Rattle.cg_octal.specs.Heaps.{heap}
use Rattle.cg_octal.specs.declared.fault.OctalFault.{OctalFault}
use Rattle.cg_eval.specs.Octals.{heap_form, heap_items, octal_read}
use Rattle.cg_eval.specs.Items.{items, all_items, term_items, further_items, signed_items, term_part}
use Rattle.cg_eval.proofs.BoardEnds.{ends-board}
use Rattle.cg_names.proofs.Literals.{literal_not_negative, literal-fraction}
use Rattle.cg_nimbers.proofs.CanonicalNimbers.{nimber-canonical}
use Rattle.cg_names.proofs.SwitchForms.{switch-canonical, tiny-canonical}
use Rattle.cg_names.proofs.UpForms.{ups-canonical}
use Rattle.cg_eval.proofs.Lasts.{AreMade, EndsIn, append_none, are_made-back, are_made-front, ends-as, ends-back, ends-map, ends-multiple}
use Rattle.cg_eval.proofs.Lasts.{ends-negative, ends-sum, ends-within, last_position, not_outside, not_too_many, one_number}
use Rattle.cg_values.proofs.GiveSteps.{can-sum_forms}

-- ---- the forms of the parts may stand for the parts

pub can-negative_form : (g : Game) → can (minus (can g)) ≡ can (minus g)
can-negative_form g =
    let e = can-equal g in
    can-same (minus (can g)) (minus g) (negative-le g (can g) e.1, negative-le (can g) g e.0)

-- one game for the other in each of n copies
copies_le : (n : ℕ) (g h : Game) → Equal g h → Equal (many n g) (many n h)
unfolding many
copies_le zero g h e = equal_refl (plain_number (whole (pos 0)))
copies_le (suc n) g h e = sum_equal (many n g) g (many n h) h (copies_le n g h e) e

pub can-multiple_form : (n : ℕ) (g : Game) → can (many n (can g)) ≡ can (many n g)
can-multiple_form n g = can-same (many n (can g)) (many n g) (copies_le n (can g) g (can-equal g))

-- ---- named games

pub ends-form : (limit : ℕ) (f : Game) → Canonical f → AreMade (form_items limit f)
    → EndsIn (can f) (form_items limit f)
unfolding form_items
ends-form limit f c m = elim (true_or_false (nat_lt limit (length (positions_of f)))) [
  | inl t ↦ absurd (not_too_many (rw t at m))
  | inr e ↦ rw e (ends-map plain_item f (can f) 0 (positions_of f) (ap (λ k. made k 0) (sym (can-fixed f c)))
      (last_position f))
]

-- the list of a game that is made from a literal
ends-literal : (limit : ℕ) (form : Number → Game) (o all : Option Number)
    → ((x : Number) → o ≡ Some x → (all ≡ Some x) × Canonical (form x))
    → AreMade (number_items limit form o) → EndsIn (can (form (or_zero all))) (number_items limit form o)
ends-literal limit form None all h m = absurd (not_outside m)
ends-literal limit form (Some x) all h m =
    let (e, c) = h x refl in
    rw e (ends-form limit (form x) c m)

ends-number : (o all : Option Number) → ((x : Number) → o ≡ Some x → all ≡ Some x)
    → AreMade (number_made o 0 ∷ []) → EndsIn (can (plain_number (or_zero all))) (number_made o 0 ∷ [])
ends-number None all h m = absurd (not_outside m)
ends-number (Some x) all h m =
    rw (h x refl) (one_number x)

-- ---- heaps

ends-heap : (limit : ℕ) (o : Result OctalHeap OctalFault) → AreMade (heap_items limit o)
    → EndsIn (can (heap_form o)) (heap_items limit o)
ends-heap limit (Err fault) m = one_number (whole (pos 0))
ends-heap limit (Ok o) m =
    let k = can (heap o.digits o.heap) in
    ends-within limit (o.heap + 1) k (map plain_item (positions_of k)) m
    (ends-map plain_item k k 0 (positions_of k) refl (last_position k))

-- ---- sums

-- a game, or its negative, behind its items
ends-signed : (limit : ℕ) (subtracted : Bool) (g : Game) (is : List Item) → EndsIn (can g) is
    → AreMade (is ++ signed_items limit subtracted (can g))
    → EndsIn (can (signed subtracted g)) (is ++ signed_items limit subtracted (can g))
ends-signed limit true g is e m =
    ends-back (can (minus g)) is (negative_items limit (can g))
    (ends-as (can (minus (can g))) (can (minus g)) (negative_items limit (can g)) (can-negative_form g)
    (ends-negative limit (can g) (are_made-back is (negative_items limit (can g)) m)))
ends-signed limit false g is e m =
    rw (append_none is) e

mutual
  unfolding items meaning_by

  pub last_item : (limit : ℕ) (t : Tree) → AreMade (items limit t)
      → EndsIn (can (meaning t)) (items limit t)
  last_item limit (number below num den) m =
      ends-number (literal below num den) (fraction below num den) (literal-fraction below num den) m
  last_item limit (ups down n) m = ends-form limit (ups_form down n) (ups-canonical down false n) m
  last_item limit (nimber n) m = ends-form limit (nimber_form n) (nimber-canonical n) m
  last_item limit (switch num den) m =
      ends-literal limit switch_form (literal false num den) (fraction false num den)
      (λ x e. (literal-fraction false num den x e, switch-canonical x (literal_not_negative num den x e))) m
  last_item limit (tiny miny num den) m =
      ends-literal limit (tiny_form miny) (literal false num den) (fraction false num den)
      (λ x e. (literal-fraction false num den x e, tiny-canonical miny x (literal_not_negative num den x e))) m
  last_item limit (sides lefts rights) m = record {
    front = all_items limit lefts ++ all_items limit rights;
    extra = 0;
    split = refl;
  }
  last_item limit (negative t) m = ends-signed limit true (meaning t) (items limit t)
      (last_item limit t (are_made-front (items limit t) (negative_items limit (can (meaning t))) m)) m
  last_item limit (multiple n t) m =
      ends-as (can (many n (can (meaning t)))) (can (many n (meaning t))) (items limit t ++ multiple_items limit n
      (can (meaning t)))
      (can-multiple_form n (meaning t))
      (ends-multiple limit n (can (meaning t)) (items limit t) (can-canonical (meaning t))
      (last_item limit t (are_made-front (items limit t) (multiple_items limit n (can (meaning t))) m)) m)
  last_item limit (sum terms) m = last_of_terms limit terms m
  last_item limit (game kind rules board) m = ends-board limit kind rules board m
  last_item limit (octal code tokens) m = ends-heap limit (octal_read code tokens) m
  last_item limit (used word column) m = one_number (whole (pos 0))

  last_of_terms : (limit : ℕ) (ts : Terms) → AreMade (term_items limit ts)
      → EndsIn (can (total ts)) (term_items limit ts)
  last_of_terms limit no_terms m = one_number (whole (pos 0))
  last_of_terms limit (with_term subtracted t ts) m =
      let own = signed_items limit subtracted (can (meaning t)) in
      let further = further_items limit (signed subtracted (meaning t)) ts in
      let k : AreMade (items limit t ++ own) = are_made-front (items limit t ++ own) further m in
      last_of_further limit (signed subtracted (meaning t)) ts (items limit t ++ own)
      (ends-signed limit subtracted (meaning t) (items limit t)
      (last_item limit t (are_made-front (items limit t) own k)) k) m

  last_of_further : (limit : ℕ) (g : Game) (ts : Terms) → (before : List Item)
      → EndsIn (can g) before → AreMade (before ++ further_items limit g ts)
      → EndsIn (can (total_with g ts)) (before ++ further_items limit g ts)
  last_of_further limit g no_terms before e m =
      let P : List Item → Type 0 = λ z. EndsIn (can g) z in subst P (sym (append_none before)) e
  last_of_further limit g (with_term subtracted t ts) before e m =
      let other = signed subtracted (meaning t) in
      let part = term_part limit subtracted t in
      let sums = sum_items limit (can g) (can other) in
      let further = further_items limit (plus g other) ts in
      let same : (before ++ (part ++ sums)) ++ further ≡ before ++ ((part ++ sums) ++ further) =
      append_assoc before (part ++ sums) further in
      let k : AreMade (part ++ sums) = are_made-front (part ++ sums) further (are_made-back before ((part ++ sums)
      ++ further) m) in
      let done : EndsIn (can (plus g other)) (before ++ (part ++ sums)) =
      ends-back (can (plus g other)) before (part ++ sums) (ends-back (can (plus g other)) part sums
      (ends-as (can (plus (can g) (can other))) (can (plus g other)) sums (can-sum_forms g other)
      (ends-sum limit (can g) (can other) (are_made-back part sums k)))) in
      let P : List Item → Type 0 = λ z. EndsIn (can (total_with (plus g other) ts)) z in
      let Q : List Item → Type 0 = λ z. AreMade z in
      subst P same (last_of_further limit (plus g other) ts (before ++ (part ++ sums)) done (subst Q (sym same) m))

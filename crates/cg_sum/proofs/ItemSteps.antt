-- The item of a sum, as it is found, made or noted.
use Rattle.std.proofs.Common.{◌≡◌, ℕ, ◌+◌, ◌≤◌, arith, refl, ap, sym, ◌∙◌, subst, List, [], ◌∷◌, Option, Some, None, IsSome, Result, Ok, Err}
use Rattle.std.specs.Result.{result_ok}
use Rattle.cg_canon.proofs.InternerSteps.{begins_then}
use Rattle.cg_canon.proofs.MadeSteps.{read_then, then_read}
use Rattle.cg_canon.specs.Arena.{Begins}
use Rattle.cg_canon.specs.Items.{Item, made, outside}
use Rattle.cg_canon.specs.ItemsAt.{IsValue, ItemAt}
use Rattle.cg_canon.specs.Made.{ItemsMade}
use Rattle.cg_canon.specs.NumberItems.{number_made}
use Rattle.cg_canon.specs.SumItems.{sum_item}
use Rattle.cg_canon.specs.declared.fault.ValueFault.{ValueFault}
use Rattle.cg_canon.specs.declared.rest.WorkRest.{WorkRest}
use Rattle.cg_canon.specs.Notes.{IsNoteOf}
use Rattle.cg_cells.specs.Meaning.{Grows, Meaning, note_for}
use Rattle.cg_cells.specs.Store.{Known, Spends, State, thing_at}
use Rattle.cg_dyadic.specs.Exact.{IsExact, sum_num}
use Rattle.cg_dyadic.specs.Number.{Number, exp_of}
use Rattle.cg_dyadic.specs.declared.fault.RangeFault.{RangeFault}
use Rattle.cg_form.specs.Game.{Game, number}
use Rattle.cg_form.specs.Sum.{sum}
use Rattle.cg_nodes.specs.Can.{can}
use Rattle.cg_nodes.specs.Games.{IsInRange}
use Rattle.cg_nodes.specs.Meant as meant
use Rattle.cg_nodes.specs.Meant.{Meant}
use Rattle.cg_sum.specs.Progress.{FormMade}
use Rattle.cg_sum.proofs.OutsideItems.{number_charged, refused_number}
use Rattle.cg_sum.proofs.Sums.{can-sum_numbers}

module _ {R : Type 0} (s t : State Meant (WorkRest R)) (gs hs : List Game) (least : ℕ) where
  -- an item whose form is the one that is meant
  pub given_form : least ≤ s.spare → (g form : Game) (n extra : ℕ) (r : Result ℕ ValueFault) → g ≡ form
      → ItemAt s t gs hs (made g n) g extra r → FormMade s t gs hs least (made form n) form r
  given_form room g form n extra r e item =
      let P : Game → Type 0 = λ z. ItemAt s t gs hs (made z n) z extra r in
      let is = subst P e item in
      record { at = is.at; begins = is.begins; made = is.made; spare = (let m = is.more in omega (arith, room, m)) }

  -- ---- the sum of two numbers

  outside_made : (g : Game) (r : Result ℕ ValueFault) → ¬ IsInRange g → ItemsMade s t (outside ∷ []) r
      → ItemsMade s t (made g 1 ∷ []) r
  outside_made g r out m = record {
    charged = number_charged r s.rest.share s.rest.spent t.rest.spent (made g 1 ∷ []) m.charged;
    refused = refused_number r s.rest.share s.rest.spent t.rest.spent g 1 out m.refused;
    keeps = m.keeps;
  }

  exact_item : least ≤ s.spare → (a b : Number) (q : Result Number RangeFault) (r : Result ℕ ValueFault)
      → IsExact (sum_num a b) (exp_of a + exp_of b) q
      → ((form : Game) → IsValue (result_ok q) form → ItemAt s t gs hs (number_made (result_ok q) 1) form 1 r)
      → FormMade s t gs hs least (sum_item (number a) (number b)) (can (sum (number a) (number b))) r
  exact_item room a b (Ok z) r e all = given_form room (number z) _ 1 1 r (sym (can-sum_numbers a b z e.0)) (all (number z) refl)
  exact_item room a b (Err x) r e all =
      let form : Game = can (sum (number a) (number b)) in
      let item = all form tt in
      let (z, is, holds, out) = e in
      let P : Game → Type 0 = λ g. ¬ IsInRange g in record {
        at = item.at;
        begins = item.begins;
        made = outside_made form r (subst P (sym (can-sum_numbers a b z is)) out) item.made;
        spare = (let m = item.more in omega (arith, room, m));
      }

  pub number_item : least ≤ s.spare → (g h : Game) (a b : Number) → g ≡ number a → h ≡ number b → (q : Result Number RangeFault)
      (o : Option Number) (r : Result ℕ ValueFault) → o ≡ result_ok q → IsExact (sum_num a b) (exp_of a + exp_of b) q
      → ((form : Game) → IsValue o form → ItemAt s t gs hs (number_made o 1) form 1 r)
      → FormMade s t gs hs least (sum_item g h) (can (sum g h)) r
  number_item room g h a b isg ish q o r e exact all =
      rw isg (rw ish (exact_item room a b q r exact (rw (← e) all)))

-- ---- before and after

module _ {R : Type 0} (w v x : State Meant (WorkRest R)) (fs gs hs : List Game) (least : ℕ) (item : Item) (form : Game) where
  -- an item after a claim
  pub form_after : (r : Result ℕ ValueFault) (n : ℕ) → Spends n w v → Begins fs gs → (more : ℕ) → least ≤ more → FormMade v x gs hs more item form r
      → FormMade w x fs hs least item form r
  form_after r n wv b more l given = record {
    at = given.at;
    begins = begins_then fs gs hs b given.begins;
    made = read_then n w v x (item ∷ []) r wv given.made;
    spare = (let m = given.spare in omega (arith, l, m));
  }

  -- and one that is noted
  pub form_noted : (i : ℕ) → FormMade w v fs gs least item form (Ok i) → Spends 0 v x → hs ≡ gs → FormMade w x fs hs least item form (Ok i)
  form_noted i given vx same =
      record {
        at = rw same given.at;
        begins = rw same given.begins;
        made = then_read 0 w v x (item ∷ []) (Ok i) given.made vx;
        spare = (let m = given.spare in let l = vx.spare in omega (arith, m, l));
      }

pub form_as : {R : Type 0} (w x : State Meant (WorkRest R)) (fs hs : List Game) (least : ℕ) (item : Item) (form : Game)
    (r q : Result ℕ ValueFault) → q ≡ r → FormMade w x fs hs least item form r → FormMade w x fs hs least item form q
form_as w x fs hs least item form r q e given =
    rw e given

-- ---- the note on a cell, later

some_thing : (o : Option Meant) → IsSome o → (x : Meant) × (o ≡ Some x)
some_thing None k = absurd cc
some_thing (Some x) k = (x, refl)

-- what a note on a cell must spell stays so
note_later : {R Q : Type 0} (m : Meaning Meant) (s : State Meant R) (t : State Meant Q) → Grows (thing_at s) (thing_at t)
    → (id : ℕ) (x : Option Meant) → Known s id → note_for m (thing_at s id) ≡ x → note_for m (thing_at t id) ≡ x
note_later m s t grows id x known e =
    let (y, is) = some_thing (thing_at s id) known in
    ap (note_for m) (grows id y is ∙ sym is) ∙ e

known_later : {R Q : Type 0} (s : State Meant R) (t : State Meant Q) → Grows (thing_at s) (thing_at t)
    → (id : ℕ) → Known s id → Known t id
known_later s t grows id known =
    let (y, is) = some_thing (thing_at s id) known in
    rw (grows id y is) refl

-- the note of a cell stays so
pub note_of_later : {R Q : Type 0} (m : Meaning Meant) (s : State Meant R) (t : State Meant Q)
    → Grows (thing_at s) (thing_at t) → (id : ℕ) (g : Game) → IsNoteOf m s id g → IsNoteOf m t id g
note_of_later m s t grows id g n =
    (known_later s t grows id n.0, note_later m s t grows id (Some (meant.form (can g))) n.0 n.1)

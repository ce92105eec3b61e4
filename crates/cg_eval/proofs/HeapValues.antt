-- The value of a heap of an octal game, from the nimber that it equals.
use Rattle.std.proofs.Common.{◌≡◌, refl, ap, sym, ◌∙◌, ℕ, suc, ◌+◌, ◌<◌, ◌≤◌, arith, inr, List, [], ◌∷◌, get_or, length, map, nat_lt, false}
use Rattle.std.proofs.Common.{None, Result, Ok, if◌then◌else◌}
use Rattle.std.proofs.lemmas.Bool.Decides.{nat_tests}
use Rattle.std.proofs.lemmas.Option.{slice_get-get_or}
use Rattle.cg_cells.specs.Store.{State}
use Rattle.cg_form.specs.Game.{Game}
use Rattle.cg_form.specs.Order.{Equal}
use Rattle.cg_nodes.specs.Can.{can}
use Rattle.cg_nodes.specs.CanLaw.{can-fixed}
use Rattle.cg_nodes.specs.Meant.{Meant}
use Rattle.cg_form.specs.Positions.{positions_of}
use Rattle.cg_nodes.proofs.Forms.{can-same}
use Rattle.cg_canon.specs.declared.fault.ValueFault.{ValueFault}
use Rattle.cg_canon.specs.declared.fault.ValueFault.TheVariants.{Memory, Positions}
use Rattle.cg_canon.specs.declared.rest.WorkRest.{WorkRest}
use Rattle.cg_canon.specs.Items.{too_many}
use Rattle.cg_canon.proofs.Keeping.{keeps_all}
use Rattle.cg_sum.proofs.SumEnds.{all_within, limit_refused}
use Rattle.cg_names.specs.Lists.{form_items, plain_item}
use Rattle.cg_names.specs.Named.{nimber_form}
use Rattle.cg_nimbers.proofs.CanonicalNimbers.{nimber-canonical}
use Rattle.cg_nimbers.proofs.NimberPositions.{length-nimbers_below, nimber-positions}
use Rattle.cg_canon.specs.Made.{Gives}
use Rattle.cg_octal.specs.Codes.{OctalHeap}
use Rattle.cg_octal.specs.Heaps.{AreValues, heap}
use Rattle.cg_eval.specs.Octals.{heap_form, heap_items}
use Rattle.cg_eval.specs.Parts.{widened}
use Rattle.cg_eval.specs.Progress.{Finds, Stops}
use Rattle.cg_eval.specs.declared.fault.NoValue.{NoValue}
use Rattle.cg_eval.proofs.Steps.{finds, finds_game, finds_items}

not_above : (a b : ℕ) → b ≤ a → nat_lt a b ≡ false
not_above a b h = grind (arith, nat_tests)

-- the form of the nimber that a game equals
pub nimber-value : (g : Game) (k : ℕ) → Equal g (nimber_form k) → nimber_form k ≡ can g
nimber-value g k e = sym (can-fixed (nimber_form k) (nimber-canonical k)) ∙ sym (can-same g (nimber_form k) e)

pub nimber-items : (limit : ℕ) (o : OctalHeap) (k : ℕ) → o.heap + 1 ≤ limit → k ≤ o.heap
    → Equal (heap o.digits o.heap) (nimber_form k) → form_items limit (nimber_form k) ≡ heap_items limit (Ok o)
unfolding form_items
nimber-items limit o k within small e =
    let f = nimber_form k in
    let p = ap length (nimber-positions k) in
    let n = length-nimbers_below (suc k) in
    ap (λ b. if b then (too_many ∷ []) else map plain_item (positions_of f))
    (not_above limit (length (positions_of f)) (omega arith))
    ∙ ap (λ z. map plain_item (positions_of z)) (nimber-value (heap o.digits o.heap) k e)
    ∙ sym (all_within limit (o.heap + 1) (map plain_item (positions_of (can (heap o.digits o.heap)))) within)

-- a heap that has more tokens, 0 included, than the limit
pub heap-positions : {R : Type 0} (s : State Meant (WorkRest R)) (o : OctalHeap) → s.rest.limit < o.heap + 1
    → Stops s s Positions (heap_items s.rest.limit (Ok o))
heap-positions s o above = record {
  refused = limit_refused Positions s.rest.share s.rest.spent s.rest.spent s.rest.limit (o.heap + 1)
      (map plain_item (positions_of (can (heap o.digits o.heap)))) refl (inr (refl, above));
  more = omega arith;
  keeps = keeps_all s;
}

pub heap-memory : {R : Type 0} (s : State Meant (WorkRest R)) (o : OctalHeap)
    → Stops s s Memory (heap_items s.rest.limit (Ok o))
heap-memory s o = record { refused = tt; more = omega arith; keeps = keeps_all s }

-- the value in its place in the list of all
value-there : (digits ks : List ℕ) (n : ℕ) → AreValues digits ks → n < length ks
    → Equal (heap digits n) (nimber_form (get_or ks n 0))
value-there digits ks n v l = v.equal n (get_or ks n 0) (slice_get-get_or ks n 0 l)

pub value-read : (digits all ks : List ℕ) (n m : ℕ) → ks ≡ all → m ≡ n → AreValues digits all → length all ≡ n + 1
    → Equal (heap digits n) (nimber_form (get_or ks m 0))
value-read digits all ks n m e f v c =
    rw e (rw f (value-there digits all n v (omega (arith, c))))

pub value-small : (digits all ks : List ℕ) (n m : ℕ) → ks ≡ all → m ≡ n → AreValues digits all → length all ≡ n + 1
    → get_or ks m 0 ≤ n
value-small digits all ks n m e f v c =
    let l : n < length all = omega (arith, c) in
    rw e (rw f (v.at_most n (get_or all n 0) (slice_get-get_or all n 0 l)))

-- what the call that makes the nimber says
pub nimber-finds : {R : Type 0} (s t : State Meant (WorkRest R)) (o : OctalHeap) (k : ℕ) (given : Result ℕ ValueFault)
    (result : Result ℕ NoValue) → result ≡ widened given
    → o.heap + 1 ≤ s.rest.limit → k ≤ o.heap → Equal (heap o.digits o.heap) (nimber_form k)
    → Gives s t (form_items s.rest.limit (nimber_form k)) (can (nimber_form k)) given
    → Finds s t None (heap_items s.rest.limit (Ok o)) (heap_form (Ok o)) result
nimber-finds s t o k given result w within small e gives =
    finds_items s t None (form_items s.rest.limit (nimber_form k)) (heap_items s.rest.limit (Ok o)) (heap o.digits o.heap) result
    (nimber-items s.rest.limit o k within small e)
    (finds_game s t None (form_items s.rest.limit (nimber_form k)) (nimber_form k) (heap o.digits o.heap) result
    (sym (can-same (heap o.digits o.heap) (nimber_form k) e))
    (finds s t (form_items s.rest.limit (nimber_form k)) (nimber_form k) given result w gives))

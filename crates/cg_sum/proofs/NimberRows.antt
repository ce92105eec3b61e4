-- The sums of nimbers, row by row.
use Rattle.std.proofs.Common.{◌≡◌, inl, inr, ap, sym, ◌∙◌, ℕ, suc, ◌+◌, ◌<◌, ◌≤◌, arith, List, [], ◌∷◌, length, Result, Ok, Err}
use Rattle.std.proofs.lemmas.Nat.{xor_comm}
use Rattle.std.specs.List.{flat_map}
use Rattle.std.specs.Prelude.{bit_xor}
use Rattle.cg_canon.proofs.ItemLaws.{all_pass-none}
use Rattle.cg_canon.proofs.Keeping.{keeps_all, keeps_then}
use Rattle.cg_canon.proofs.MadeSteps.{made_as}
use Rattle.cg_canon.specs.Items.{AllPass, Item}
use Rattle.cg_canon.specs.Made.{ItemsMade}
use Rattle.cg_canon.specs.SumItems.{pair_items, row_items, sum_item}
use Rattle.cg_canon.specs.Works.{Keeps}
use Rattle.cg_canon.specs.declared.fault.ValueFault.{ValueFault}
use Rattle.cg_canon.specs.declared.rest.WorkRest.{WorkRest}
use Rattle.cg_cells.specs.Store.{State}
use Rattle.cg_dyadic.proofs.Integers.{le_or_gt}
use Rattle.cg_form.specs.Game.{Game}
use Rattle.cg_nimbers.proofs.CanonicalNimbers.{nimbers_below-front}
use Rattle.cg_nimbers.proofs.NimberLists.{nimbers_below-next}
use Rattle.cg_nimbers.proofs.Xor.{xor-lesser}
use Rattle.cg_nimbers.specs.Nimbers.{nimber_form, nimbers_below}
use Rattle.cg_nodes.specs.Meant.{Meant}
use Rattle.cg_sum.specs.Firsts.{HoldsFirst, RowsKnown, nimber_item}
use Rattle.cg_sum.specs.declared.firsts.FirstNimbers.{FirstNimbers}
use Rattle.cg_sum.proofs.FirstSteps.{nimber_items}
use Rattle.cg_sum.proofs.ItemLoops.{flat-map, loop_passed, loop_stopped}

-- ---- the items of a row

-- the item of the sum of the nimber of i and a game
abbrev pub nimber_row : ℕ → Game → List Item
nimber_row i h = sum_item (nimber_form i) h ∷ []

-- the sums of the nimber of i and the first nimbers, so many, were made
pub record RowSoFar {R : Type 0} (w v : State Meant (WorkRest R)) (n : FirstNimbers) (i columns done : ℕ) : Type 0 where
  pub within : done ≤ columns
  pub keeps : Keeps w v
  pub passed : AllPass w.rest.share w.rest.spent (flat_map (nimber_row i) (nimbers_below done)) v.rest.spent
  pub holds : HoldsFirst v n
  pub known : RowsKnown n i columns
  pub row : (j : ℕ) → j < done → bit_xor i j < length n.handles.items
  pub spare : w.spare ≤ v.spare

module _ {R : Type 0} (w : State Meant (WorkRest R)) (i columns : ℕ) where
  pub row_start : (m : FirstNimbers) → HoldsFirst w m → RowsKnown m i columns → RowSoFar w w m i columns 0
  unfolding nimbers_below
  row_start m holds known = record {
    within = omega arith;
    keeps = keeps_all w;
    passed = all_pass-none w.rest.share w.rest.spent;
    holds = holds;
    known = known;
    row = λ j l. absurd (omega arith);
    spare = omega arith;
  }

  module _ (v : State Meant (WorkRest R)) (n : FirstNimbers) (j : ℕ) (so : RowSoFar w v n i columns j) (l : j < columns) where
    -- each lesser number is that of an earlier sum, so the next one is known or comes next
    pub row_near : bit_xor i j ≤ length n.handles.items
    row_near =
        let count : ℕ = length n.handles.items in
        elim (le_or_gt (bit_xor i j) count) [
          | inl within ↦ within
          | inr above ↦ elim (xor-lesser i j count above) [
            | inl p ↦
                let earlier = so.known.each p.partner j p.lesser l in
                let e = p.gives in
                absurd (omega arith)
            | inr p ↦
                let earlier = so.row p.partner p.lesser in
                let e = xor_comm i p.partner ∙ p.gives in
                absurd (omega arith)
          ]
        ]

    module _ {T : Type 0} (x : State Meant (WorkRest R)) (r : Result T ValueFault)
        (item : ItemsMade v x (nimber_item (bit_xor i j) ∷ []) r) where
      own : ItemsMade v x (nimber_row i (nimber_form j)) r
      own = made_as v x (nimber_item (bit_xor i j) ∷ []) (nimber_row i (nimber_form j)) r (ap (λ z. z ∷ []) (sym (nimber_items i j))) item

      pub row_stop : {U : Type 0} (q : Result U ValueFault) (e : ValueFault) → r ≡ Err e → q ≡ Err e
          → ItemsMade w x (row_items (nimbers_below columns) (nimber_form i)) q
      row_stop q e a b =
          let (back, is) = nimbers_below-front j columns l in
          made_as w x _ _ q (flat-map (sum_item (nimber_form i)) (nimbers_below columns))
          (loop_stopped w v x (nimber_row i) (nimbers_below j) (nimber_form j) so.keeps so.passed r own (nimbers_below columns) back is
          q e a b)

      pub row_next : (o : FirstNimbers) (t : T) → r ≡ Ok t → HoldsFirst x o → bit_xor i j < length o.handles.items
          → length n.handles.items ≤ length o.handles.items → v.spare ≤ x.spare → RowSoFar w x o i columns (j + 1)
      row_next o t ok holds known more spare =
          let next : suc j ≡ j + 1 = omega arith in
          rw (← next) (record {
            within = omega arith;
            keeps = keeps_then w v x so.keeps item.keeps;
            passed = loop_passed w v x (nimber_row i) (nimbers_below j) (nimber_form j) so.keeps so.passed r own _
                (nimbers_below-next j) t ok;
            holds = holds;
            known = record { each = λ a b k m. let earlier = so.known.each a b k m in omega arith };
            row = λ b m. elim (le_or_gt j b) [
              | inl last ↦
                  let e : j ≡ b = omega arith in
                  rw (← e) known
              | inr before ↦ let earlier = so.row b before in omega arith
            ];
            spare = let before = so.spare in omega arith;
          })

  -- the whole row
  pub row_end : {T : Type 0} (v : State Meant (WorkRest R)) (n : FirstNimbers) (j : ℕ) (t : T) → RowSoFar w v n i columns j
      → columns ≤ j → ItemsMade w v (row_items (nimbers_below columns) (nimber_form i)) (Ok t)
  row_end v n j t so past =
      let within = so.within in
      let e : j ≡ columns = omega arith in
      made_as w v _ _ (Ok t) (flat-map (sum_item (nimber_form i)) (nimbers_below columns))
      (record { charged = rw (← e) so.passed; refused = tt; keeps = so.keeps })

  pub row_known : (v : State Meant (WorkRest R)) (n : FirstNimbers) (j : ℕ) → RowSoFar w v n i columns j → columns ≤ j
      → RowsKnown n (i + 1) columns
  row_known v n j so past = record {
    each = λ a b k m. elim (le_or_gt i a) [
      | inl last ↦
          let e : i ≡ a = omega arith in
          rw (← e) (so.row b (omega arith))
      | inr before ↦ so.known.each a b before m
    ];
  }

-- ---- the items of all rows

-- the sums of the first nimbers, so many, and the others were made
pub record RowsSoFar {R : Type 0} (w v : State Meant (WorkRest R)) (n : FirstNimbers) (rows columns done : ℕ) : Type 0 where
  pub within : done ≤ rows
  pub keeps : Keeps w v
  pub passed : AllPass w.rest.share w.rest.spent (pair_items (nimbers_below done) (nimbers_below columns)) v.rest.spent
  pub holds : HoldsFirst v n
  pub known : RowsKnown n done columns
  pub spare : w.spare ≤ v.spare

module _ {R : Type 0} (w : State Meant (WorkRest R)) (rows columns : ℕ) where
  pub rows_start : (m : FirstNimbers) → HoldsFirst w m → RowsSoFar w w m rows columns 0
  unfolding nimbers_below
  rows_start m holds = record {
    within = omega arith;
    keeps = keeps_all w;
    passed = all_pass-none w.rest.share w.rest.spent;
    holds = holds;
    known = record { each = λ i j k l. absurd (omega arith) };
    spare = omega arith;
  }

  module _ (v : State Meant (WorkRest R)) (n : FirstNimbers) (i : ℕ) (so : RowsSoFar w v n rows columns i) (l : i < rows)
      {T : Type 0} (x : State Meant (WorkRest R)) (r : Result T ValueFault)
      (row : ItemsMade v x (row_items (nimbers_below columns) (nimber_form i)) r) where
    pub rows_stop : {U : Type 0} (q : Result U ValueFault) (e : ValueFault) → r ≡ Err e → q ≡ Err e
        → ItemsMade w x (pair_items (nimbers_below rows) (nimbers_below columns)) q
    rows_stop q e a b =
        let (back, is) = nimbers_below-front i rows l in
        loop_stopped w v x (row_items (nimbers_below columns)) (nimbers_below i) (nimber_form i) so.keeps so.passed r row
        (nimbers_below rows) back is q e a b

    pub rows_more : (o : FirstNimbers) (t : T) → r ≡ Ok t → HoldsFirst x o → RowsKnown o (i + 1) columns → v.spare ≤ x.spare
        → RowsSoFar w x o rows columns (i + 1)
    rows_more o t ok holds known spare =
        let next : suc i ≡ i + 1 = omega arith in
        record {
          within = omega arith;
          keeps = keeps_then w v x so.keeps row.keeps;
          passed = loop_passed w v x (row_items (nimbers_below columns)) (nimbers_below i) (nimber_form i) so.keeps so.passed r row _
              (ap nimbers_below (sym next) ∙ nimbers_below-next i) t ok;
          holds = holds;
          known = known;
          spare = let before = so.spare in omega arith;
        }

  pub rows_end : {T : Type 0} (v : State Meant (WorkRest R)) (n : FirstNimbers) (i : ℕ) (t : T) → RowsSoFar w v n rows columns i
      → rows ≤ i → ItemsMade w v (pair_items (nimbers_below rows) (nimbers_below columns)) (Ok t)
  rows_end v n i t so past =
      let within = so.within in
      let e : i ≡ rows = omega arith in
      record { charged = rw (← e) so.passed; refused = tt; keeps = so.keeps }

  pub rows_known : (v : State Meant (WorkRest R)) (n : FirstNimbers) (i : ℕ) → RowsSoFar w v n rows columns i → rows ≤ i
      → RowsKnown n rows columns
  rows_known v n i so past = record { each = λ a b k l. so.known.each a b (omega arith) l }

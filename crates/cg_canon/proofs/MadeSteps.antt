-- Calls that make items, one after another.
use Rattle.std.proofs.Common.{◌≡◌, ℕ, sym, subst, List, [], ◌++◌, Result, Ok, Err}
use Rattle.std.specs.Prelude.{IfErr, OnOk}
use Rattle.cg_cells.specs.Store.{Spends, State}
use Rattle.cg_nodes.specs.Meant.{Meant}
use Rattle.cg_canon.specs.declared.fault.ValueFault.{ValueFault}
use Rattle.cg_canon.specs.declared.fault.ValueFault.TheVariants.{Memory}
use Rattle.cg_canon.specs.declared.rest.WorkRest.{WorkRest}
use Rattle.cg_canon.specs.Items.{AllPass, Item, WasRefused}
use Rattle.cg_canon.specs.Made.{ItemsMade}
use Rattle.cg_canon.specs.Works.{Keeps}
use Rattle.cg_canon.proofs.ItemLaws.{all_pass-append, all_pass-none, refused-back, refused-front}
use Rattle.cg_canon.proofs.Keeping.{keeps_all, keeps_then, spends_keeps}

-- ---- one result

charged_then : {T : Type 0} (r : Result T ValueFault) (share a b c : ℕ) (xs ys : List Item) → AllPass share a xs b
    → OnOk r (AllPass share b ys c) → OnOk r (AllPass share a (xs ++ ys) c)
charged_then (Ok h) share a b c xs ys p q = all_pass-append share a b c xs ys p q
charged_then (Err e) share a b c xs ys p q = tt

refused_then : {T : Type 0} (r : Result T ValueFault) (share a b c : ℕ) (xs ys : List Item) → AllPass share a xs b
    → IfErr r (λ fault. WasRefused fault share b ys c) → IfErr r (λ fault. WasRefused fault share a (xs ++ ys) c)
refused_then (Ok h) share a b c xs ys p q = tt
refused_then (Err e) share a b c xs ys p q = refused-back e share a b c xs ys p q

-- ---- one call

module _ {R T : Type 0} where
  -- nothing was made
  pub made_none : (s : State Meant (WorkRest R)) (h : T) → ItemsMade s s [] (Ok h)
  made_none s h = record { charged = all_pass-none s.rest.share s.rest.spent; refused = tt; keeps = keeps_all s }

  -- want of memory, whatever was made before
  pub made_memory : (s t : State Meant (WorkRest R)) (items : List Item) (r : Result T ValueFault) → r ≡ Err Memory
      → Keeps s t → ItemsMade s t items r
  made_memory s t items r e k =
      let P : Result T ValueFault → Type 0 = λ z. ItemsMade s t items z in
      subst P (sym e) (record { charged = tt; refused = tt; keeps = k })

  pub made_as : (s t : State Meant (WorkRest R)) (xs ys : List Item) (r : Result T ValueFault) → xs ≡ ys
      → ItemsMade s t xs r → ItemsMade s t ys r
  made_as s t xs ys r e m = let P : List Item → Type 0 = λ z. ItemsMade s t z r in subst P e m

  pub passed : (s t : State Meant (WorkRest R)) (items : List Item) (r : Result T ValueFault) (h : T) → r ≡ Ok h
      → ItemsMade s t items r → AllPass s.rest.share s.rest.spent items t.rest.spent
  passed s t items r h e m =
      let P : Result T ValueFault → Type 0 = λ z. OnOk z (AllPass s.rest.share s.rest.spent items t.rest.spent) in
      subst P e m.charged

  pub was_refused : (s t : State Meant (WorkRest R)) (items : List Item) (r : Result T ValueFault) (fault : ValueFault)
      → r ≡ Err fault → ItemsMade s t items r → WasRefused fault s.rest.share s.rest.spent items t.rest.spent
  was_refused s t items r fault e m =
      rw e at m.refused

  -- ---- one call after another

  -- items that were made, and then more
  pub made_then : (s t u : State Meant (WorkRest R)) (xs ys : List Item) (r : Result T ValueFault)
      → AllPass s.rest.share s.rest.spent xs t.rest.spent → Keeps s t → ItemsMade t u ys r → ItemsMade s u (xs ++ ys) r
  made_then s t u xs ys r p k m =
      record {
        charged =
            charged_then r s.rest.share s.rest.spent t.rest.spent u.rest.spent xs ys p (rw (← k.share) m.charged);
        refused =
            refused_then r s.rest.share s.rest.spent t.rest.spent u.rest.spent xs ys p (rw (← k.share) m.refused);
        keeps = keeps_then s t u k m.keeps;
      }

  -- nothing was made, and then items
  pub read_then : (n : ℕ) (s t u : State Meant (WorkRest R)) (ys : List Item) (r : Result T ValueFault)
      → Spends n s t → ItemsMade t u ys r → ItemsMade s u ys r
  read_then n s t u ys r k m =
      record {
        charged = rw (← k.rest) m.charged;
        refused = rw (← k.rest) m.refused;
        keeps = keeps_then s t u (spends_keeps n s t k) m.keeps;
      }

  -- items, and then nothing more
  pub then_read : (n : ℕ) (s t u : State Meant (WorkRest R)) (ys : List Item) (r : Result T ValueFault)
      → ItemsMade s t ys r → Spends n t u → ItemsMade s u ys r
  then_read n s t u ys r m k =
      record {
        charged = rw k.rest m.charged;
        refused = rw k.rest m.refused;
        keeps = keeps_then s t u m.keeps (spends_keeps n t u k);
      }

-- ---- another result

module _ {R T U : Type 0} where
  -- the same refusal, where more items would have followed
  pub stopped : (s t : State Meant (WorkRest R)) (xs ys : List Item) (r : Result T ValueFault) (q : Result U ValueFault)
      (e : ValueFault) → r ≡ Err e → q ≡ Err e → ItemsMade s t xs r → ItemsMade s t (xs ++ ys) q
  stopped s t xs ys r q e a b m =
      let Q : Result U ValueFault → Type 0 = λ z. ItemsMade s t (xs ++ ys) z in
      subst Q (sym b) (record {
        charged = tt;
        refused = refused-front e s.rest.share s.rest.spent t.rest.spent xs ys (was_refused s t xs r e a m);
        keeps = m.keeps;
      })

  -- the same items with another result
  pub made_with : (s t : State Meant (WorkRest R)) (items : List Item) (r : Result T ValueFault) (q : Result U ValueFault)
      (h : T) (k : U) → r ≡ Ok h → q ≡ Ok k → ItemsMade s t items r → ItemsMade s t items q
  made_with s t items r q h k a b m =
      rw b (record { charged = passed s t items r h a m; refused = tt; keeps = m.keeps })

  -- all items of one call, and then those of another
  pub made_after : (s t u : State Meant (WorkRest R)) (xs ys : List Item) (r : Result T ValueFault) (h : T)
      (q : Result U ValueFault) → r ≡ Ok h → ItemsMade s t xs r → ItemsMade t u ys q → ItemsMade s u (xs ++ ys) q
  made_after s t u xs ys r h q e m n = made_then s t u xs ys q (passed s t xs r h e m) m.keeps n

-- Calls that make items, one after another, as `?` hands a refusal on.
use Rattle.std.proofs.Common.{◌≡◌, ◌∙◌, ◌≤◌, ℕ, arith, refl, ap, List, ◌++◌, Result, Ok, Err}
use Rattle.std.specs.Result.{IsErrAnd}
use Rattle.std.proofs.lemmas.Result.{err_from_is_err_and}
use Rattle.cg_canon.proofs.MadeSteps.{made_after, stopped}
use Rattle.cg_canon.specs.Items.{Item}
use Rattle.cg_canon.specs.Made.{Gives, ItemsMade}
use Rattle.cg_canon.specs.declared.fault.ValueFault.{ValueFault}
use Rattle.cg_canon.specs.declared.rest.WorkRest.{WorkRest}
use Rattle.cg_cells.specs.Store.{State}
use Rattle.cg_form.specs.Game.{Game}
use Rattle.cg_nodes.specs.Games.{StandsFor}
use Rattle.cg_nodes.specs.Meant.{Meant}

module _ {R : Type 0} where
  -- ---- items

  -- items, and then those of a call at the end
  pub last : {T U : Type 0} {s t u : State Meant (WorkRest R)} {xs ys all : List Item} {h : T} {q : Result U ValueFault}
      → ItemsMade s t xs (Ok h) → ItemsMade t u ys q → all ≡ xs ++ ys → ItemsMade s u all q
  last m n e = rw e (made_after _ _ _ _ _ _ _ _ refl m n)

  pub next : {T U V : Type 0} {s t u : State Meant (WorkRest R)} {xs ys all : List Item} {h : T} {k : U} {z : V}
      → ItemsMade s t xs (Ok h) → ItemsMade t u ys (Ok k) → all ≡ xs ++ ys → ItemsMade s u all (Ok z)
  next m n e = let c = last m n e in record { charged = c.charged; refused = tt; keeps = c.keeps }

  -- a refusal, where more items would have followed
  pub handed : {T U : Type 0} {s t : State Meant (WorkRest R)} {ys all : List Item} {q : Result U ValueFault} {f : ValueFault} (back : List Item)
      → ItemsMade {T = T} s t ys (Err f) → IsErrAnd q (λ e. e ≡ f) → all ≡ ys ++ back → ItemsMade s t all q
  handed {q = q} back m a e =
      let p = err_from_is_err_and q a in
      rw (e, p.1 ∙ ap Err p.2) (stopped _ _ _ back _ _ _ refl refl m)

  -- a refusal of all of them
  pub made_handed : {T U : Type 0} {s t : State Meant (WorkRest R)} {all : List Item} {q : Result U ValueFault} {f : ValueFault}
      → ItemsMade {T = T} s t all (Err f) → IsErrAnd q (λ e. e ≡ f) → ItemsMade s t all q
  made_handed {q = q} m a =
      let p = err_from_is_err_and q a in
      rw (p.1 ∙ ap Err p.2) (record { charged = tt; refused = m.refused; keeps = m.keeps })

  -- ---- items, and a handle for the form of the last

  pub given : {T : Type 0} {s t : State Meant (WorkRest R)} {all : List Item} {form : Game} {i : T} {h : ℕ} → ItemsMade s t all (Ok i)
      → s.spare ≤ t.spare → StandsFor t h form → Gives s t all form (Ok h)
  given m l stands = record { game = stands; made = record { charged = m.charged; refused = tt; keeps = m.keeps }; more = l }

  pub given_refusal : {T : Type 0} {s t : State Meant (WorkRest R)} {all : List Item} {form : Game} {q : Result ℕ ValueFault} {f : ValueFault}
      (back : List Item) {ys : List Item} → ItemsMade {T = T} s t ys (Err f) → s.spare ≤ t.spare → IsErrAnd q (λ e. e ≡ f) → all ≡ ys ++ back
      → Gives s t all form q
  given_refusal {q = q} back m l a e =
      let p = err_from_is_err_and q a in
      let made = handed {U = ℕ} {q = q} back m a e in
      rw (p.1 ∙ ap Err p.2) (record { game = tt; made = rw (p.1 ∙ ap Err p.2) at made; more = l })

  pub given_last : {s t u : State Meant (WorkRest R)} {xs ys all : List Item} {f g : Game} {h : ℕ} {q : Result ℕ ValueFault}
      → Gives s t xs f (Ok h) → Gives t u ys g q → all ≡ xs ++ ys → Gives s u all g q
  given_last m n e =
      let a = m.more in
      let b = n.more in
      record { game = n.game; made = last m.made n.made e; more = omega arith }

  pub given_handed : {s t : State Meant (WorkRest R)} {ys all : List Item} {f g : Game} {q : Result ℕ ValueFault} {x : ValueFault} (back : List Item)
      → Gives s t ys f (Err x) → IsErrAnd q (λ e. e ≡ x) → all ≡ ys ++ back → Gives s t all g q
  given_handed back m a e = given_refusal back m.made m.more a e

-- Calls on a work that make items, one after another.
use Rattle.std.proofs.Common.{◌≡◌, refl, sym, subst, ap, ◌∙◌, ℕ, arith, List, [], ◌++◌, Option, Some, None, Result, Ok, Err}
use Rattle.cg_form.specs.Game.{Game}
use Rattle.cg_cells.specs.Store.{State}
use Rattle.cg_nodes.specs.Can.{can}
use Rattle.cg_nodes.specs.Games.{StandsFor}
use Rattle.cg_nodes.specs.Meant.{Meant}
use Rattle.cg_canon.specs.declared.fault.ValueFault.{ValueFault}
use Rattle.cg_canon.specs.declared.fault.ValueFault.TheVariants.{Memory}
use Rattle.cg_canon.specs.declared.rest.WorkRest.{WorkRest}
use Rattle.cg_canon.specs.Items.{AllPass, Item, WasRefused}
use Rattle.cg_canon.proofs.ItemLaws.{all_pass-append, all_pass-none, refused-back, refused-front}
use Rattle.cg_canon.proofs.Keeping.{keeps_all, keeps_then}
use Rattle.cg_canon.specs.Made.{Gives}
use Rattle.cg_eval.specs.Faults.{first_of_two}
use Rattle.cg_eval.specs.Parts.{widened}
use Rattle.cg_eval.specs.Progress.{Finds, Lacks, Makes, Stops}
use Rattle.cg_eval.specs.declared.fault.GameFault.{GameFault}
use Rattle.cg_eval.specs.declared.fault.NoValue.{NoValue}
use Rattle.cg_eval.specs.declared.fault.NoValue.TheVariants.{IllFormed, Refused}

-- the first of two faults
pub first_some : (f g : Option GameFault) (x : GameFault) → f ≡ Some x → first_of_two f g ≡ Some x
first_some f g x e = ap (λ z. first_of_two z g) e

pub first_none : (f g : Option GameFault) → f ≡ None → first_of_two f g ≡ g
first_none f g e = ap (λ z. first_of_two z g) e

-- what is passed on by ?
pub passed_on : {A : Type 0} (P : Result A NoValue → Type 0) (result : Result A NoValue) (x cause : NoValue)
    → result ≡ Err x → x ≡ cause → P (Err cause) → P result
passed_on P result x cause e f h = subst P (sym (e ∙ ap Err f)) h

-- ---- one call

module _ {R : Type 0} (s t : State Meant (WorkRest R)) where
  -- a call that gives the form of a game
  pub gives_from : (items : List Item) (k g : Game) (result : Result ℕ ValueFault) → k ≡ can g → Gives s t items k result
      → Gives s t items (can g) result
  gives_from items k g result e r = let P : Game → Type 0 = λ z. Gives s t items z result in subst P e r

  widened_finds : (is : List Item) (g : Game) (given : Result ℕ ValueFault) → Gives s t is (can g) given
      → Finds s t None is g (widened given)
  widened_finds is g (Ok h) r = (refl, (r.game, record { passed = r.made.charged; more = r.more; keeps = r.made.keeps }))
  widened_finds is g (Err fault) r = record { refused = r.made.refused; more = r.more; keeps = r.made.keeps }

  -- a call that makes the items of a game
  pub finds : (is : List Item) (g : Game) (given : Result ℕ ValueFault) (result : Result ℕ NoValue) → result ≡ widened given
      → Gives s t is (can g) given → Finds s t None is g result
  finds is g given result e r =
      let P : Result ℕ NoValue → Type 0 = λ z. Finds s t None is g z in subst P (sym e) (widened_finds is g given r)

  pub finds_items : (fault : Option GameFault) (is js : List Item) (g : Game) (result : Result ℕ NoValue) → is ≡ js
      → Finds s t fault is g result → Finds s t fault js g result
  finds_items fault is js g result e r = let P : List Item → Type 0 = λ z. Finds s t fault z g result in subst P e r

  pub finds_game : (fault : Option GameFault) (is : List Item) (g h : Game) (result : Result ℕ NoValue) → can g ≡ can h
      → Finds s t fault is g result → Finds s t fault is h result
  finds_game fault is g h (Ok i) e r = let P : Game → Type 0 = λ z. StandsFor t i z in (r.0, (subst P e r.1.0, r.1.1))
  finds_game fault is g h (Err cause) e r = r

  pub makes_items : (is js : List Item) → is ≡ js → Makes s t is → Makes s t js
  makes_items is js e m = let P : List Item → Type 0 = λ z. Makes s t z in subst P e m

  pub lacks_items : (fault : Option GameFault) (is js : List Item) (cause : NoValue) → is ≡ js → Lacks s t fault is cause
      → Lacks s t fault js cause
  lacks_items fault is js cause e m = let P : List Item → Type 0 = λ z. Lacks s t fault z cause in subst P e m

  pub lacks_fault : (f g : Option GameFault) (is : List Item) (cause : NoValue) → f ≡ g → Lacks s t f is cause
      → Lacks s t g is cause
  lacks_fault f g is cause e m = rw (← e) m

  -- whatever comes behind
  pub lacks_front : (f g : Option GameFault) (is js : List Item) (cause : NoValue)
      → ((x : GameFault) → f ≡ Some x → g ≡ Some x) → Lacks s t f is cause → Lacks s t g (is ++ js) cause
  lacks_front f g is js (IllFormed x) some r = (some x r.0, r.1)
  lacks_front f g is js (Refused fault) some r = record {
    refused = refused-front fault s.rest.share s.rest.spent t.rest.spent is js r.refused;
    more = r.more;
    keeps = r.keeps;
  }

  -- want of memory
  pub stops_memory : (is js : List Item) → Makes s t is → Stops s t Memory js
  stops_memory is js m = record { refused = tt; more = m.more; keeps = m.keeps }

pub makes_none : {R : Type 0} (s : State Meant (WorkRest R)) → Makes s s []
makes_none s = record { passed = all_pass-none s.rest.share s.rest.spent; more = omega arith; keeps = keeps_all s }

-- ---- one call after another

module _ {R : Type 0} (s t u : State Meant (WorkRest R)) where
  pub makes_then : (is js : List Item) → Makes s t is → Makes t u js → Makes s u (is ++ js)
  makes_then is js a b =
      let P : ℕ → Type 0 = λ n. AllPass n t.rest.spent js u.rest.spent in
      record {
        passed = all_pass-append s.rest.share s.rest.spent t.rest.spent u.rest.spent is js a.passed
            (subst P a.keeps.share b.passed);
        more = let m = a.more in let n = b.more in omega arith;
        keeps = keeps_then s t u a.keeps b.keeps;
      }

  pub lacks_then : (fault : Option GameFault) (is js : List Item) (cause : NoValue) → Makes s t is → Lacks t u fault js cause
      → Lacks s u fault (is ++ js) cause
  lacks_then fault is js (IllFormed x) a b = (b.0, keeps_then s t u a.keeps b.1)
  lacks_then fault is js (Refused x) a b =
      record {
        refused = refused-back x s.rest.share s.rest.spent t.rest.spent u.rest.spent is js a.passed
            (rw (← a.keeps.share) b.refused);
        more = let m = a.more in let n = b.more in omega arith;
        keeps = keeps_then s t u a.keeps b.keeps;
      }

  pub finds_then : (f fault : Option GameFault) (is js : List Item) (g : Game) (result : Result ℕ NoValue) → f ≡ fault
      → Makes s t is → Finds t u fault js g result → Finds s u f (is ++ js) g result
  finds_then f fault is js g (Ok h) e a b = (e ∙ b.0, (b.1.0, makes_then is js a b.1.1))
  finds_then f fault is js g (Err cause) e a b =
      lacks_fault s u fault f (is ++ js) cause (sym e) (lacks_then fault is js cause a b)

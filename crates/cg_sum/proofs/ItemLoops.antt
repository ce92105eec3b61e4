-- A loop over games that makes the items of each, in order.
use Rattle.std.proofs.Common.{◌≡◌, refl, ap, sym, ◌∙◌, List, [], ◌∷◌, ◌++◌, append_assoc, append-nil, map, Result, Ok, Err}
use Rattle.std.specs.List.{flat_map}
use Rattle.std.proofs.lemmas.Grind.{flat_map-append}
use Rattle.cg_canon.proofs.MadeSteps.{made_as, made_then, passed, stopped}
use Rattle.cg_canon.specs.Items.{AllPass, Item}
use Rattle.cg_canon.specs.Made.{ItemsMade}
use Rattle.cg_canon.specs.Works.{Keeps}
use Rattle.cg_canon.specs.declared.fault.ValueFault.{ValueFault}
use Rattle.cg_canon.specs.declared.rest.WorkRest.{WorkRest}
use Rattle.cg_cells.specs.Store.{State}
use Rattle.cg_form.specs.Game.{Game}
use Rattle.cg_nodes.specs.Meant.{Meant}

-- one item for each game
pub flat-map : (f : Game → Item) (gs : List Game) → flat_map (λ g. f g ∷ []) gs ≡ map f gs
flat-map f [] = refl
flat-map f (g ∷ gs) = ap (λ z. f g ∷ z) (flat-map f gs)

-- the items of the games in front were made, and then those of g
module _ {R T : Type 0} (w v x : State Meant (WorkRest R)) (f : Game → List Item) (front : List Game) (g : Game) (keeps : Keeps w v)
    (before : AllPass w.rest.share w.rest.spent (flat_map f front) v.rest.spent) (r : Result T ValueFault)
    (made : ItemsMade v x (f g) r) where
  with_it : ItemsMade w x (flat_map f front ++ f g) r
  with_it = made_then w v x (flat_map f front) (f g) r before keeps made

  -- one refusal more
  pub loop_stopped : {U : Type 0} (all back : List Game) → all ≡ front ++ (g ∷ back) → (q : Result U ValueFault) (e : ValueFault)
      → r ≡ Err e → q ≡ Err e → ItemsMade w x (flat_map f all) q
  loop_stopped all back is q e a b =
      made_as w x ((flat_map f front ++ f g) ++ flat_map f back) (flat_map f all) q
      (append_assoc (flat_map f front) (f g) (flat_map f back) ∙ sym (ap (flat_map f) is ∙ flat_map-append f front (g ∷ back)))
      (stopped w x (flat_map f front ++ f g) (flat_map f back) r q e a b with_it)

  -- and one game more
  pub loop_passed : (all : List Game) → all ≡ front ++ (g ∷ []) → (t : T) → r ≡ Ok t
      → AllPass w.rest.share w.rest.spent (flat_map f all) x.rest.spent
  loop_passed all is t ok =
      rw (ap (flat_map f) is ∙ flat_map-append f front (g ∷ []) ∙ ap (λ z. flat_map f front ++ z) (append-nil (f g)))
      (passed w x (flat_map f front ++ f g) r t ok with_it)

-- How a call on a work ends that makes items.
use Rattle.std.specs.Prelude.{ℕ, ◌≡◌, ◌≤◌, ◌++◌, List, map, Option, Some, None, Result, Ok, Err, Vec}
use Rattle.cg_form.specs.Game.{Game, to_list}
use Rattle.cg_cells.specs.Store.{State}
use Rattle.cg_nodes.specs.Can.{can}
use Rattle.cg_nodes.specs.Games.{StandsFor, StandFor}
use Rattle.cg_nodes.specs.Meant.{Meant}
use Rattle.cg_canon.specs.declared.fault.ValueFault.{ValueFault}
use Rattle.cg_canon.specs.declared.rest.WorkRest.{WorkRest}
use Rattle.cg_canon.specs.Items.{Item, AllPass, WasRefused}
use Rattle.cg_canon.specs.Works.{Keeps}
use Rattle.cg_query.specs.Tree.{Tree, Trees}
use Rattle.cg_eval.specs.Faults.{fault_in, fault_in_all, first_of_two}
use Rattle.cg_eval.specs.Items.{items, all_items}
use Rattle.cg_eval.specs.Meaning.{meaning, meanings}
use Rattle.cg_eval.specs.declared.fault.GameFault.{GameFault}
use Rattle.cg_eval.specs.declared.fault.NoValue.{NoValue}
use Rattle.cg_eval.specs.declared.fault.NoValue.TheVariants.{IllFormed, Refused}

-- all of the items were made and charged
pub record Makes {R : Type 0} (s t : State Meant (WorkRest R)) (items : List Item) : Type 0 where
  pub passed : AllPass s.rest.share s.rest.spent items t.rest.spent
  pub more : s.spare ≤ t.spare
  pub keeps : Keeps s t

-- the first item that is refused has this fault, unless memory was wanting
pub record Stops {R : Type 0} (s t : State Meant (WorkRest R)) (fault : ValueFault) (items : List Item) : Type 0 where
  pub refused : WasRefused fault s.rest.share s.rest.spent items t.rest.spent
  pub more : s.spare ≤ t.spare
  pub keeps : Keeps s t

-- why there is no value: this is the fault of the first ill-formed board or heap; or the first item that is refused has it
abbrev pub Lacks : {R : Type 0} → State Meant (WorkRest R) → State Meant (WorkRest R) → Option GameFault → List Item → NoValue → Type 0
Lacks {R} s t fault items (IllFormed f) = (fault ≡ Some f) × Keeps s t
Lacks {R} s t fault items (Refused f) = Stops s t f items

-- what is to be found, with no ill-formed board or heap and with all items made; or why there is none
abbrev pub Ends : {R A : Type 0} → State Meant (WorkRest R) → State Meant (WorkRest R) → Option GameFault → List Item
    → (A → Type 0) → Result A NoValue → Type 0
Ends {R} {A} s t fault items Is (Ok x) = (fault ≡ None) × (Is x × Makes s t items)
Ends {R} {A} s t fault items Is (Err cause) = Lacks s t fault items cause

-- the handle of the game's form
abbrev pub Finds : {R : Type 0} → State Meant (WorkRest R) → State Meant (WorkRest R) → Option GameFault → List Item → Game
    → Result ℕ NoValue → Type 0
Finds {R} s t fault items g result = Ends s t fault items (λ h. StandsFor t h (can g)) result

-- the handle of what the expression means
abbrev pub Evaluates : {R : Type 0} → State Meant (WorkRest R) → State Meant (WorkRest R) → Tree
    → Result ℕ NoValue → Type 0
Evaluates {R} s t e result = Finds s t (fault_in e) (items s.rest.limit e) (meaning e) result

-- the handles of what two expressions mean, with the first one's items before the second's
abbrev pub EvaluatesTwo : {R : Type 0} → State Meant (WorkRest R) → State Meant (WorkRest R) → Tree → Tree
    → Result (ℕ × ℕ) NoValue → Type 0
EvaluatesTwo {R} s t a b result =
    Ends s t (first_of_two (fault_in a) (fault_in b)) (items s.rest.limit a ++ items s.rest.limit b)
    (λ hs. StandsFor t hs.0 (can (meaning a)) × StandsFor t hs.1 (can (meaning b))) result

-- the handles of what the expressions mean, in order
abbrev pub EvaluatesAll : {R A : Type 0} → State Meant (WorkRest R) → State Meant (WorkRest R) → Trees
    → Result (Vec ℕ A) NoValue → Type 0
EvaluatesAll {R} {A} s t es result =
    Ends s t (fault_in_all es) (all_items s.rest.limit es) (λ hs. StandFor t hs.items (map can (to_list (meanings es)))) result

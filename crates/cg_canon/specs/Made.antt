-- What a call that makes items has done. The work was s as a store before the call, and is t after it.
use Rattle.std.specs.Prelude.{ℕ, ◌+◌, ◌≤◌, List, [], ◌∷◌, Result, IfErr, IfOk, OnErr, OnOk}
use Rattle.cg_form.specs.Game.{Game}
use Rattle.cg_cells.specs.Store.{State}
use Rattle.cg_nodes.specs.Games.{StandsFor}
use Rattle.cg_nodes.specs.Meant.{Meant}
use Rattle.cg_canon.specs.declared.fault.ValueFault.{ValueFault}
use Rattle.cg_canon.specs.declared.rest.WorkRest.{WorkRest}
use Rattle.cg_canon.specs.Items.{AllPass, Item, WasRefused, made}
use Rattle.cg_canon.specs.Works.{IsUnspent, Keeps}

-- the items were made in their order, or the first that isn't made was refused; what was known and noted stays so
pub record ItemsMade {R T : Type 0} (s t : State Meant (WorkRest R)) (items : List Item) (result : Result T ValueFault) : Type 0 where
  pub charged : OnOk result (AllPass s.rest.share s.rest.spent items t.rest.spent)
  pub refused : IfErr result (λ fault. WasRefused fault s.rest.share s.rest.spent items t.rest.spent)
  pub keeps : Keeps s t

-- the items were made, and the handle stands for the form; or the first item that isn't made was refused
pub record Gives {R : Type 0} (s t : State Meant (WorkRest R)) (items : List Item) (form : Game) (result : Result ℕ ValueFault)
    : Type 0 where
  pub game : IfOk result (λ h. StandsFor t h form)
  pub made : ItemsMade s t items result
  pub more : s.spare ≤ t.spare

-- the item of the form was made at so much more than its own cost, and paid for; or it was refused, and nothing was spent
pub record FormGiven {R : Type 0} (s t : State Meant (WorkRest R)) (form : Game) (extra : ℕ) (result : Result ℕ ValueFault)
    : Type 0 where
  pub gives : Gives s t (made form extra ∷ []) form result
  pub same : OnErr result (IsUnspent s t)
  pub spare : OnOk result (s.spare + extra ≤ t.spare)

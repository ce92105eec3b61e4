-- What a call that makes an item by indexes has done.
use Rattle.std.specs.Prelude.{◌≡◌, ℕ, ◌+◌, ◌≤◌, List, [], ◌∷◌, Option, Some, None, Result, IfOk, OnOk}
use Rattle.cg_dyadic.specs.Number.{Number}
use Rattle.cg_form.specs.Game.{Game, number}
use Rattle.cg_cells.specs.Store.{State}
use Rattle.cg_nodes.specs.Meant.{Meant}
use Rattle.cg_canon.specs.declared.fault.ValueFault.{ValueFault}
use Rattle.cg_canon.specs.declared.rest.WorkRest.{WorkRest}
use Rattle.cg_canon.specs.Arena.{Begins, IsAt}
use Rattle.cg_canon.specs.Items.{Item}
use Rattle.cg_canon.specs.Made.{ItemsMade}

-- the item of the form was made at so much more than its own cost, and the form stands in the arena at the index; or the item was
-- refused. The arena, gs before and hs after, only grew
pub record ItemAt {R : Type 0} (s t : State Meant (WorkRest R)) (gs hs : List Game) (item : Item) (form : Game) (extra : ℕ)
    (result : Result ℕ ValueFault) : Type 0 where
  pub at : IfOk result (λ i. IsAt hs i form)
  pub begins : Begins gs hs
  pub made : ItemsMade s t (item ∷ []) result
  pub spare : OnOk result (s.spare + extra ≤ t.spare)
  pub more : s.spare ≤ t.spare

-- the form is this number, where one is given
abbrev pub IsValue : Option Number → Game → Type 0
IsValue (Some x) form = form ≡ number x
IsValue None form = Unit {0}

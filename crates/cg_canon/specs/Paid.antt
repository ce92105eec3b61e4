-- What a call that makes an item of a store has done to the store and to its meter.
use Rattle.std.specs.Prelude.{ℕ, ◌+◌, ◌≤◌, List, Result, Ok, Err, Option, Some, None, IfOk, IfSome}
use Rattle.cg_form.specs.Game.{Game, node}
use Rattle.cg_cells.specs.Store.{State}
use Rattle.cg_nodes.specs.Meant.{Meant}
use Rattle.cg_arena.specs.declared.canonicalizing.NewForm.{NewForm}
use Rattle.cg_arena.specs.Arena.{games_of}
use Rattle.cg_canon.specs.declared.fault.ValueFault.{ValueFault}
use Rattle.cg_canon.specs.declared.fault.ValueFault.TheVariants.{Memory}
use Rattle.cg_canon.specs.declared.making.Entered.{Entered}
use Rattle.cg_canon.specs.declared.meter.Meter.{Meter}
use Rattle.cg_canon.specs.declared.rest.WorkRest.{WorkRest}
use Rattle.cg_canon.specs.Arena.{Begins, IsAt}
use Rattle.cg_canon.specs.Made.{FormGiven}

-- the game of the indexes of the form
abbrev pub written : List Game → NewForm → Game
written gs new = node (games_of gs new.form.lefts.items) (games_of gs new.form.rights.items)

-- the store has to spare what the meter's share leaves
pub record MayPay {R : Type 0} (s : State Meant R) (m : Meter) : Type 0 where
  pub within : m.spent ≤ m.share
  pub small : m.share ≤ 67108864
  pub room : m.share ≤ s.spare + m.spent

-- a store and its meter, as a work that began with nothing to spare
abbrev pub metered : {R : Type 0} → State Meant R → Meter → State Meant (WorkRest R)
metered {R} s m = record {
  known = s.known;
  noted = s.noted;
  spare = s.spare + m.spent;
  rest = record { of_store = s.rest; name = 0; spent = m.spent; share = m.share; start = 0; limit = 0 };
}

-- the item of the form was made and paid for, or it was refused; the meter was m before, and is n after
pub record IsPaid {R : Type 0} (s t : State Meant R) (m n : Meter) (form : Game) (extra : ℕ) (result : Result ℕ ValueFault) : Type 0 where
  pub given : FormGiven (metered s m) (metered t n) form extra result
  pub within : n.spent ≤ n.share
  pub fallen : t.spare ≤ s.spare

-- the handle of what was made
abbrev pub handle_in : Result Entered ValueFault → Result ℕ ValueFault
handle_in (Ok e) = Ok e.handle
handle_in (Err fault) = Err fault

-- an index, where there was memory for one
abbrev pub game_or : Option ℕ → Result ℕ ValueFault
game_or (Some i) = Ok i
game_or None = Err Memory

abbrev pub game_in : Result Entered ValueFault → Result ℕ ValueFault
game_in (Ok e) = game_or e.game
game_in (Err fault) = Err fault

-- the item was paid for or refused, and a form that was made stands in the arena, hs, at its index, if it has one; the arena, gs before,
-- only grew
pub record IsEntered {R : Type 0} (s t : State Meant R) (m n : Meter) (gs hs : List Game) (form : Game) (extra : ℕ)
    (result : Result Entered ValueFault) : Type 0 where
  pub paid : IsPaid s t m n form extra (handle_in result)
  pub at : IfOk result (λ e. IfSome e.game (λ i. IsAt hs i form))
  pub begins : Begins gs hs

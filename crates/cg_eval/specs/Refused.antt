-- Answers that are refusals.
use Rattle.std.specs.Prelude.{◌≡◌, Option, Some, None}
use Rattle.cg_canon.specs.declared.fault.ValueFault.{ValueFault}
use Rattle.cg_canon.specs.declared.fault.ValueFault.TheVariants.{Range, Full, Depth, Positions, Memory}
use Rattle.cg_eval.specs.declared.answered.Answered.{Answered}
use Rattle.cg_eval.specs.declared.fault.GameFault.{GameFault}
use Rattle.cg_eval.specs.Reply.{Piece, ill_formed, refusal_of}
use Rattle.cg_eval.specs.Shown.{shown}

-- the answer is this refusal, and has no handle
pub record IsRefusedBy (refusal : Piece) (a : Answered) : Type 0 where
  pub text : shown a ≡ refusal
  pub handle : a.handle ≡ None

-- the answer is the refusal for this cause; want of memory has none
abbrev pub IsRefusedFor : ValueFault → Answered → Type 0
IsRefusedFor Memory a = ⊥
IsRefusedFor Range a = IsRefusedBy (refusal_of Range) a
IsRefusedFor (Full n) a = IsRefusedBy (refusal_of (Full n)) a
IsRefusedFor (Depth d) a = IsRefusedBy (refusal_of (Depth d)) a
IsRefusedFor Positions a = IsRefusedBy (refusal_of Positions) a

-- the same where no board or heap is ill-formed, and else the refusal for the first that is
abbrev pub IsRefusedOver : Option GameFault → ValueFault → Answered → Type 0
IsRefusedOver None fault a = IsRefusedFor fault a
IsRefusedOver (Some first) fault a = IsRefusedBy (ill_formed first) a

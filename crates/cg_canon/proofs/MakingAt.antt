-- Items that are made by indexes, and what they leave of a work.
use Rattle.std.proofs.Common.{◌≡◌, refl, ap, ◌∙◌, ℕ, ◌+◌, ◌≤◌, List, [], ◌∷◌, Option, Some, None, Result, Ok, Err}
use Rattle.std.specs.Prelude.{IfOk, IfSome}
use Rattle.std.specs.Borrow.{MutBor}
use Rattle.cg_form.specs.Game.{Game}
use Rattle.cg_cells.specs.Store.{State}
use Rattle.cg_nodes.specs.Meant.{Meant}
use Rattle.cg_canon.specs.declared.fault.ValueFault.{ValueFault}
use Rattle.cg_canon.specs.declared.making.Entered.{Entered}
use Rattle.cg_canon.specs.declared.meter.Meter.{Meter}
use Rattle.cg_canon.specs.declared.rest.WorkRest.{WorkRest}
use Rattle.cg_canon.specs.Arena.{Begins, IsAt}
use Rattle.cg_canon.specs.Items.{WasRefused, made}
use Rattle.cg_canon.specs.ItemsAt.{ItemAt}
use Rattle.cg_canon.specs.Made.{FormGiven}
use Rattle.cg_canon.specs.Paid.{IsEntered, IsPaid, handle_in, game_in, game_or}
use Rattle.cg_canon.specs.Works.{work_state}
use Rattle.cg_nodes.proofs.Later.{nothing_spent}
use Rattle.cg_canon.proofs.InternerSteps.{begins_none}
use Rattle.cg_canon.proofs.Paying.{none_paid, paid_item}

-- ---- the handle of the form was given

module _ {R : Type 0} (s t : State Meant R) (m n : Meter) (gs hs : List Game) (form : Game) (extra : ℕ) (r : Result ℕ ValueFault)
    (p : IsPaid s t m n form extra r) (begins : Begins gs hs) where
  -- and it stands at an index
  pub entered_at : (h i : ℕ) → r ≡ Ok h → IsAt hs i form
      → IsEntered s t m n gs hs form extra (Ok (record { handle = h; game = Some i }))
  entered_at h i e at =
      let own : IsPaid s t m n form extra (Ok h) = rw (← e) p in record { paid = own; at = at; begins = begins }

  -- or there was no memory for an index
  pub entered_without : (h : ℕ) → r ≡ Ok h → IsEntered s t m n gs hs form extra (Ok (record { handle = h; game = None }))
  entered_without h e = let own : IsPaid s t m n form extra (Ok h) = rw (← e) p in record { paid = own; at = tt; begins = begins }

  -- or it was refused
  pub entered_refused : (fault : ValueFault) → r ≡ Err fault → IsEntered s t m n gs hs form extra (Err fault)
  entered_refused fault e =
      let own : IsPaid s t m n form extra (Err fault) = rw (← e) p in record { paid = own; at = tt; begins = begins }

-- an item that is refused without any claim
pub entered_none : {R : Type 0} (s : State Meant R) (m : Meter) (gs : List Game) (form : Game) (extra : ℕ) (fault : ValueFault)
    → m.spent ≤ m.share → WasRefused fault m.share m.spent (made form extra ∷ []) m.spent
    → IsEntered s s m m gs gs form extra (Err fault)
entered_none s m gs form extra fault within refused = record {
  paid = none_paid s s m (nothing_spent s) form extra fault within refused;
  at = tt;
  begins = begins_none gs;
}

-- ---- what is seen of a work, before and after

with_index : {R : Type 0} (s t : State Meant (WorkRest R)) (gs hs : List Game) (form : Game) (extra h : ℕ) (index : Option ℕ)
    → FormGiven s t form extra (Ok h) → IfSome index (λ i. IsAt hs i form) → Begins gs hs
    → ItemAt s t gs hs (made form extra) form extra (game_or index)
with_index s t gs hs form extra h (Some i) f at begins = record {
  at = at;
  begins = begins;
  made = record { charged = f.gives.made.charged; refused = tt; keeps = f.gives.made.keeps };
  spare = f.spare;
  more = f.gives.more;
}
with_index s t gs hs form extra h None f at begins = record {
  at = tt;
  begins = begins;
  made = record { charged = tt; refused = tt; keeps = f.gives.made.keeps };
  spare = tt;
  more = f.gives.more;
}

item_in : {R : Type 0} (s t : State Meant (WorkRest R)) (gs hs : List Game) (form : Game) (extra : ℕ) (r : Result Entered ValueFault)
    → FormGiven s t form extra (handle_in r) → IfOk r (λ e. IfSome e.game (λ i. IsAt hs i form)) → Begins gs hs
    → ItemAt s t gs hs (made form extra) form extra (game_in r)
item_in s t gs hs form extra (Ok e) f at begins = with_index s t gs hs form extra e.handle e.game f at begins
item_in s t gs hs form extra (Err fault) f at begins = record {
  at = tt;
  begins = begins;
  made = record { charged = tt; refused = f.gives.made.refused; keeps = f.gives.made.keeps };
  spare = tt;
  more = f.gives.more;
}

pub entered_item : {S R : Type 0} (state : S → State Meant R) (a b : MutBor S) (m n : Meter) (start limit : ℕ) (gs hs : List Game)
    (form : Game) (extra : ℕ) (r : Result Entered ValueFault) (q : Result ℕ ValueFault)
    → IsEntered (state a.now) (state b.now) m n gs hs form extra r → q ≡ game_in r → b.ghost_name ≡ a.ghost_name
    → start ≤ (state a.now).spare + m.spent
    → ItemAt (work_state state (record { store = a; spent = m.spent; share = m.share; start = start; limit = limit; arena = gs }))
    (work_state state (record { store = b; spent = n.spent; share = n.share; start = start; limit = limit; arena = hs })) gs hs
    (made form extra) form extra q
entered_item state a b m n start limit gs hs form extra r q p e name room =
    rw e (item_in _ _ gs hs form extra r (paid_item state a b m n start limit gs hs form extra (handle_in r) p.paid.given name room) p.at
    p.begins)

-- the index is the one that was given
pub entered_own : (r : Result Entered ValueFault) (q : Result ℕ ValueFault) (i : ℕ) → q ≡ game_in r
    → IfOk r (λ e. e.game ≡ Some i) → IfOk q (λ k. k ≡ i)
entered_own (Ok e) q i a b = let is : q ≡ Ok i = a ∙ ap game_or b in rw is refl
entered_own (Err fault) q i a b = rw a tt

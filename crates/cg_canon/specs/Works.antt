-- What a work is, as contracts see it.
use Rattle.std.specs.Prelude.{◌≡◌, ℕ, ◌+◌, ◌-◌, ◌≤◌, List, refl}
use Rattle.std.specs.Coded.{Coded, code_by, coded_list, coded×, coded_ℕ}
use Rattle.std.specs.Borrow.{MutBor}
use denote.MutBor.{mut_coded}
use Rattle.cg_form.specs.Game.{Game}
use Rattle.cg_form.specs.GameCode.{game_code}
use Rattle.cg_cells.specs.Meaning.{Grows}
use Rattle.cg_cells.specs.Store.{IsSublist, State, thing_at}
use Rattle.cg_nodes.specs.Meant.{Meant}
use Rattle.cg_canon.specs.declared.rest.WorkRest.{WorkRest}

-- the store that is borrowed, the cost so far, the greatest cost, what the store had to spare at first, the limit on
-- positions, and the games that were met, each at its index, the options of a game before it
pub record WorkOf (S : Type 0) : Type 0 where
  pub store : MutBor S
  pub spent : ℕ
  pub share : ℕ
  pub start : ℕ
  pub limit : ℕ
  pub arena : List Game

abbrev pub work_code : {S : Type 0} → Coded S → Coded (WorkOf S)
work_code {S} c =
    code_by (MutBor S × (ℕ × (ℕ × (ℕ × (ℕ × List Game)))))
    (coded× (mut_coded c) (coded× coded_ℕ (coded× coded_ℕ (coded× coded_ℕ (coded× coded_ℕ (coded_list game_code))))))
    (λ (w : WorkOf S). (w.store, (w.spent, (w.share, (w.start, (w.limit, w.arena))))))
    (λ p. record { store = p.0; spent = p.1.0; share = p.1.1.0; start = p.1.1.1.0; limit = p.1.1.1.1.0; arena = p.1.1.1.1.1 })
    (λ _. refl)

-- the meter is within its share, and the store has as much to spare as when the work began, less what was spent
pub record MeterHolds {R : Type 0} (s : State Meant R) (spent share start : ℕ) : Type 0 where
  pub within : spent ≤ share
  pub room : share ≤ start
  pub small : start ≤ 67108864
  pub fallen : s.spare ≤ start
  pub enough : start ≤ s.spare + spent

abbrev pub work_rest : {S R : Type 0} → WorkOf S → R → WorkRest R
work_rest {S} {R} w rest = record {
  of_store = rest;
  name = w.store.ghost_name;
  spent = w.spent;
  share = w.share;
  start = w.start;
  limit = w.limit;
}

-- a work as a store: it knows and has noted what its store has, and its spare is what was charged and not claimed
abbrev pub work_state : {S R : Type 0} → (S → State Meant R) → WorkOf S → State Meant (WorkRest R)
work_state {S} {R} state w = record {
  known = (state w.store.now).known;
  noted = (state w.store.now).noted;
  spare = (state w.store.now).spare + w.spent - w.start;
  rest = work_rest w (state w.store.now).rest;
}

-- what was known and noted stays so, and so do the store's rest, which store it is, the share, what the store had to spare
-- at first, and the limit; what is spent and what is to spare may change
pub record Keeps {R : Type 0} (s t : State Meant (WorkRest R)) : Type 0 where
  pub known : Grows (thing_at s) (thing_at t)
  pub noted : IsSublist s.noted t.noted
  pub of_store : t.rest.of_store ≡ s.rest.of_store
  pub name : t.rest.name ≡ s.rest.name
  pub share : t.rest.share ≡ s.rest.share
  pub start : t.rest.start ≡ s.rest.start
  pub limit : t.rest.limit ≡ s.rest.limit

-- nothing was spent, and there is as much to spare
pub record IsUnspent {R : Type 0} (s t : State Meant (WorkRest R)) : Type 0 where
  pub spent : t.rest.spent ≡ s.rest.spent
  pub spare : t.spare ≡ s.spare

-- A shared table, its passes, and a desk, as clauses see them.
use Rattle.std.specs.Prelude.{◌≡◌, ℕ, ◌==◌, List, [], Bool, false, None, if◌then◌else◌, refl}
use Rattle.std.specs.Coded.{Coded, coded×, coded_ℕ, coded_list, coded_option, coded_bool, code_by}
use base.Stored.{coded_via}
use Rattle.atomic_table.specs.Table.{Me}
use Rattle.atomic_table.specs.Seated.{TableId, table_id_coded}
use Rattle.cg_cells.specs.Meaning.{Meaning}
use Rattle.cg_cells.specs.Store.{State}
use Rattle.cg_cells.specs.Views.{Sizes, ViewOf, Action, a_split, a_join, a_draw, a_look, a_read, a_probe, a_claim, a_note, known_of}
use Rattle.cg_cells.specs.Sure.{Sure}

-- which table it is, and its sizes
pub record CellsOf : Type 0 where
  pub table : TableId
  pub sizes : Sizes

-- the table of a pass, and the pass's view
pub record PassOf (X : Type 0) : Type 0 where
  pub table : TableId
  pub sees : ViewOf X

-- what no call on cells changes of a pass: its table, its tickets, its heirs, and how many passes were met into it
pub record RestOf : Type 0 where
  pub cells : CellsOf
  pub tickets : List ℕ
  pub heirs : ℕ
  pub met : ℕ

module _ {X : Type 0} where
  -- the pass is one of this table
  abbrev pub IsPassOf : CellsOf → PassOf X → Type 0
  IsPassOf c p = (p.table ≡ c.table) × (p.sees.sizes ≡ c.sizes)

  abbrev pub state_by : TableId → ViewOf X → State X RestOf
  state_by table v = record {
    known = known_of v;
    noted = v.noted;
    spare = v.spare;
    rest = record { cells = record { table = table; sizes = v.sizes }; tickets = v.tickets; heirs = v.heirs; met = v.met };
  }

  -- a pass as a store of cells
  abbrev pub pass_state : PassOf X → State X RestOf
  pass_state p = state_by p.table p.sees

  -- the pass owns what it owned
  pub record IsStill (v w : ViewOf X) : Type 0 where
    pub sizes : w.sizes ≡ v.sizes
    pub spare : w.spare ≡ v.spare
    pub tickets : w.tickets ≡ v.tickets
    pub heirs : w.heirs ≡ v.heirs
    pub met : w.met ≡ v.met
    pub over : w.over ≡ v.over
    pub probe : w.probe ≡ v.probe
    pub gone : w.gone ≡ v.gone

  -- What holds of a pass between two calls: its numbers are those of its view, no search goes on, and it is sure of its view
  pub record IsKeptPass {S : Type 0} (m : Meaning X) (spare heirs : ℕ) (over : Bool) (me : Me S (ViewOf X)) : Type 0 where
    pub same_spare : spare ≡ me.0.spare
    pub same_heirs : heirs ≡ me.0.heirs
    pub same_over : over ≡ me.0.over
    pub no_slot : me.1 ≡ []
    pub no_probe : me.0.probe ≡ None
    pub alive : me.0.gone ≡ false
    pub sure : Sure m me.0

-- codes
abbrev pub sizes_code : Coded Sizes
sizes_code = coded_via (coded× coded_ℕ (coded× coded_ℕ coded_ℕ))
    (λ (z : Sizes). (z.lines, (z.share, z.passes)))
    (λ x y e i. record { lines = (e i).0; share = (e i).1.0; passes = (e i).1.1 })

abbrev pub cells_code : Coded CellsOf
cells_code = coded_via (coded× table_id_coded sizes_code)
    (λ (c : CellsOf). (c.table, c.sizes))
    (λ x y e i. record { table = (e i).0; sizes = (e i).1 })

abbrev pub rest_code : Coded RestOf
rest_code = coded_via (coded× cells_code (coded× (coded_list coded_ℕ) (coded× coded_ℕ coded_ℕ)))
    (λ (r : RestOf). (r.cells, (r.tickets, (r.heirs, r.met))))
    (λ x y e i. record { cells = (e i).0; tickets = (e i).1.0; heirs = (e i).1.1.0; met = (e i).1.1.1 })

-- a step by its kind and two numbers
abbrev numbers_of : Action → ℕ × (ℕ × ℕ)
numbers_of (a_split heirs) = (0, (heirs, 0))
numbers_of a_join = (1, (0, 0))
numbers_of a_draw = (2, (0, 0))
numbers_of (a_look id) = (3, (id, 0))
numbers_of (a_read id) = (4, (id, 0))
numbers_of (a_probe key) = (5, (key, 0))
numbers_of (a_claim key) = (6, (key, 0))
numbers_of (a_note id value) = (7, (id, value))

abbrev action_of : ℕ × (ℕ × ℕ) → Action
action_of (kind, (first, second)) =
    if kind == 0 then a_split first
    else if kind == 1 then a_join
    else if kind == 2 then a_draw
    else if kind == 3 then a_look first
    else if kind == 4 then a_read first
    else if kind == 5 then a_probe first
    else if kind == 6 then a_claim first
    else a_note first second

pub same_action : (d : Action) → action_of (numbers_of d) ≡ d
same_action (a_split heirs) = refl
same_action a_join = refl
same_action a_draw = refl
same_action (a_look id) = refl
same_action (a_read id) = refl
same_action (a_probe key) = refl
same_action (a_claim key) = refl
same_action (a_note id value) = refl

abbrev pub action_code : Coded Action
action_code = code_by (ℕ × (ℕ × ℕ)) (coded× coded_ℕ (coded× coded_ℕ coded_ℕ)) numbers_of action_of same_action

abbrev pub view_code : {X : Type 0} → Coded X → Coded (ViewOf X)
view_code {X} c =
    coded_via (coded× sizes_code (coded× (coded_list (coded× coded_ℕ c)) (coded× (coded_list coded_ℕ) (coded× (coded_list coded_ℕ) (coded× coded_ℕ (coded× (coded_list coded_ℕ) (coded× coded_ℕ (coded× coded_ℕ (coded× coded_bool (coded× (coded_option (coded× coded_ℕ coded_ℕ)) (coded× (coded_list action_code) coded_bool)))))))))))
    (λ (v : ViewOf X). (v.sizes, (v.known, (v.noted, (v.empties, (v.spare, (v.tickets, (v.heirs, (v.met, (v.over, (v.probe, (v.made, v.gone))))))))))))
    (λ x y e i. record {
      sizes = (e i).0;
      known = (e i).1.0;
      noted = (e i).1.1.0;
      empties = (e i).1.1.1.0;
      spare = (e i).1.1.1.1.0;
      tickets = (e i).1.1.1.1.1.0;
      heirs = (e i).1.1.1.1.1.1.0;
      met = (e i).1.1.1.1.1.1.1.0;
      over = (e i).1.1.1.1.1.1.1.1.0;
      probe = (e i).1.1.1.1.1.1.1.1.1.0;
      made = (e i).1.1.1.1.1.1.1.1.1.1.0;
      gone = (e i).1.1.1.1.1.1.1.1.1.1.1;
    })

abbrev pub pass_code : {X : Type 0} → Coded X → Coded (PassOf X)
pass_code {X} c = coded_via (coded× table_id_coded (view_code c))
    (λ (p : PassOf X). (p.table, p.sees))
    (λ x y e i. record { table = (e i).0; sees = (e i).1 })

-- What the rule of a shared table tells of one live view.
use Rattle.std.specs.Prelude.{◌≡◌, ℕ, ◌^◌, ◌<◌, ◌≤◌, true, Some, if◌then◌else◌, nat_lt}
use Rattle.cg_cells.specs.Meaning.{Meaning, IsInjective, IsReal}
use Rattle.cg_cells.specs.Views.{ViewOf, cells_of, knows}
use Rattle.cg_cells.specs.Table.{Tells, HasAllTickets, times, passes_of}
use Rattle.cg_cells.specs.Steps.{Table, IsReachable, HasPass}

module _ {X : Type 0} (m : Meaning X) where
  -- some list of steps leads to a table of which a live pass has this view
  abbrev pub IsReached : ViewOf X → Type 0
  IsReached v = (t : Table X) × IsReachable m v.sizes t × HasPass t v

  pub record Sure (v : ViewOf X) : Type 0 where
    -- no id is taken for two things, and different ids are different things
    pub one : (i : ℕ) (t : X) → Tells v.known i t → knows v i ≡ Some t
    pub apart : IsInjective (knows v)
    -- a known id is a cell of the table, and its thing is one that some cells stand for
    pub inside : (i : ℕ) (t : X) → knows v i ≡ Some t → i < cells_of v.sizes
    pub real : (i : ℕ) → IsReal m (knows v i)
    -- no line was drawn twice, and all were drawn where no other pass may have drawn and none is left
    pub once : (n : ℕ) → times n v.tickets ≤ (if nat_lt n v.sizes.lines then 1 else 0)
    pub all : v.over ≡ true → passes_of v ≡ v.sizes.passes → HasAllTickets v
    pub few_spare : v.spare ≤ 2 ^ 26
    pub few_heirs : v.heirs ≤ 65536
    pub few_passes : passes_of v ≤ v.sizes.passes
    pub reached : IsReached v

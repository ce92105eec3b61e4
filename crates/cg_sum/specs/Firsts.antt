-- The first nimbers, which a call knows by their numbers, and the sums that are nimbers.
use Rattle.std.specs.Prelude.{ℕ, ◌<◌, ◌≤◌, bit_xor, List, [], ◌∷◌, length, slice_index}
use Rattle.cg_canon.specs.Items.{AllPass, Item, made}
use Rattle.cg_cells.specs.Store.{State}
use Rattle.cg_nimbers.specs.Nimbers.{nimber_form, nimbers_below}
use Rattle.cg_nodes.specs.Games.{StandFor, StandsFor}
use Rattle.cg_nodes.specs.Meant.{Meant}
use Rattle.cg_sum.specs.declared.firsts.FirstNimbers.{FirstNimbers}
use Rattle.cg_sum.specs.declared.pair.NimberPair.{NimberPair}

-- the handles stand for 0, *1, *2 and so on, in this order
abbrev pub AreFirst : {R : Type 0} → State Meant R → List ℕ → Type 0
AreFirst {R} s hs = StandFor s hs (nimbers_below (length hs))

-- the item of a sum that is the nimber of n: it costs 1 more than the form
abbrev pub nimber_item : ℕ → Item
nimber_item n = made (nimber_form n) 1

-- each cost is that of the item of its place, which passes where so much may be spent
pub record HoldsCosts (costs : List ℕ) : Type 0 where
  pub each : (n : ℕ) → n < length costs
      → AllPass (slice_index costs n) 0 (nimber_item n ∷ []) (slice_index costs n)

-- some first nimbers, and what the items of the first of these cost
pub record HoldsFirst {R : Type 0} (s : State Meant R) (m : FirstNimbers) : Type 0 where
  pub some : 0 < length m.handles.items
  pub first : AreFirst s m.handles.items
  pub fewer : length m.costs.items ≤ length m.handles.items
  pub costs : HoldsCosts m.costs.items

-- the sums of the first nimbers, so many in rows and columns, are known
pub record RowsKnown (m : FirstNimbers) (rows columns : ℕ) : Type 0 where
  pub each : (i j : ℕ) → i < rows → j < columns → bit_xor i j < length m.handles.items

-- two nimbers, by the handles a and b, with the nimbers up to both
pub record IsPair {R : Type 0} (s : State Meant R) (a b : ℕ) (pair : NimberPair) : Type 0 where
  pub first : StandsFor s a (nimber_form pair.first)
  pub second : StandsFor s b (nimber_form pair.second)
  pub first_within : pair.first < length pair.nimbers.handles.items
  pub second_within : pair.second < length pair.nimbers.handles.items
  pub holds : HoldsFirst s pair.nimbers

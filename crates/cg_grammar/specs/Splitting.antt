-- How a row of sides with runs of bars between them is split, said of its longest run.
use Rattle.std.specs.Prelude.{ℕ, suc, ◌≡◌, ◌≤◌, ◌<◌, ◌⊎◌, List, [], ◌∷◌, ◌++◌, Option, Some, None}
use Rattle.cg_query.specs.Tree.{Tree, braces}
use Rattle.cg_grammar.specs.Found.{Found}
use Rattle.cg_grammar.specs.Braces.{Run_side, side_trees}

-- each run is shorter
abbrev pub AllShorter : ℕ → List Run_side → Type 0
AllShorter n [] = Unit {0}
AllShorter n (r ∷ rows) = (r.bars < n) × AllShorter n rows

-- each run has at least one bar and so many at most
abbrev pub AllWithin : ℕ → List Run_side → Type 0
AllWithin most [] = Unit {0}
AllWithin most (r ∷ rows) = (1 ≤ r.bars) × (r.bars ≤ most) × AllWithin most rows

-- The options of a side without a run are its expressions. A side with runs is one option, the brace of what stands before
-- its longest run and what stands behind it, split by the same rule.
pub data IsSplit : List Found → List Run_side → List Tree → Type 0 where
  alone : (side : List Found) → IsSplit side [] (side_trees side)
  split : (side : List Found) (before : List Run_side) (longest : Run_side) (behind : List Run_side) (lefts rights : List Tree)
      → AllShorter longest.bars before → AllShorter longest.bars behind → IsSplit side before lefts → IsSplit longest.side behind rights
      → IsSplit side (before ++ longest ∷ behind) (braces lefts rights ∷ [])

-- each length is at most this one
abbrev pub AllAtMost : ℕ → List ℕ → Type 0
AllAtMost n [] = Unit {0}
AllAtMost n (m ∷ lengths) = (m ≤ n) × AllAtMost n lengths

-- A run of this length repeats one of these earlier runs of its brace: one of them has its length, and none longer stands
-- behind that one.
pub record Repeats (length : ℕ) (earlier : List ℕ) : Type 0 where
  pub before : List ℕ
  pub between : List ℕ
  pub spelled : earlier ≡ before ++ length ∷ between
  pub none_longer : AllAtMost length between

-- no run of a brace repeats an earlier one, where these are the lengths of the runs before them
abbrev pub NoneRepeats : List ℕ → List Run_side → Type 0
NoneRepeats earlier [] = Unit {0}
NoneRepeats earlier (r ∷ rows) = (¬ Repeats r.bars earlier) × NoneRepeats (earlier ++ r.bars ∷ []) rows

-- ---- the column at which a brace is refused

-- an expression of this side is refused at this column
abbrev pub IsSideFault : List Found → ℕ → Type 0
IsSideFault [] column = ⊥
IsSideFault (e ∷ others) column = (e.fault ≡ Some column) ⊎ IsSideFault others column

-- the run starts at this column and repeats one of these earlier runs
abbrev pub IsRepeatAt : List ℕ → Run_side → ℕ → Type 0
IsRepeatAt earlier r column = (r.column ≡ column) × Repeats r.bars earlier

-- one of these runs repeats an earlier one of its brace at this column, or an expression behind one of them is refused there
abbrev pub IsRunsFault : List ℕ → List Run_side → ℕ → Type 0
IsRunsFault earlier [] column = ⊥
IsRunsFault earlier (r ∷ rows) column =
    IsRepeatAt earlier r column ⊎ (IsSideFault r.side column ⊎ IsRunsFault (earlier ++ r.bars ∷ []) rows column)

-- at this column a run of the brace repeats an earlier one of it, or an expression in it is refused
abbrev pub IsFault : List Found → List Run_side → ℕ → Type 0
IsFault side rows column = IsSideFault side column ⊎ IsRunsFault [] rows column

-- the least number of which this holds, or none where it holds of none
abbrev pub IsLeast : (ℕ → Type 0) → Option ℕ → Type 0
IsLeast Is None = (n : ℕ) → ¬ Is n
IsLeast Is (Some least) = Is least × ((n : ℕ) → Is n → least ≤ n)

-- Expressions stand one behind the other, from one column to before another: each that is refused is so within its own text.
abbrev pub SideLies : ℕ → List Found → ℕ → Type 0
SideLies from [] to = from ≤ to
SideLies from (e ∷ others) to = (middle : ℕ) × (from ≤ middle) × ((c : ℕ) → e.fault ≡ Some c → (from ≤ c) × (c < middle)) × SideLies middle others to

-- and so do runs, each with the side behind it
abbrev pub RunsLie : ℕ → List Run_side → ℕ → Type 0
RunsLie from [] to = from ≤ to
RunsLie from (r ∷ rows) to = (middle : ℕ) × (from ≤ r.column) × SideLies (suc r.column) r.side middle × RunsLie middle rows to

-- a side, and runs behind it
abbrev pub RowLies : ℕ → List Found → List Run_side → ℕ → Type 0
RowLies from side rows to = (middle : ℕ) × SideLies from side middle × RunsLie middle rows to

-- Answers, each with the number of its line, and what workers bring back.
use Rattle.std.specs.Prelude.{◌≡◌, ◌<◌, ◌≤◌, ◌⊎◌, ℕ, ◌+◌, ◌-◌, ◌*◌, ◌^◌, if◌then◌else◌, nat_lt}
use Rattle.std.specs.Prelude.{List, [], length, true, Some, slice_get, slice_index, get_or, All, Contains}
use Rattle.std.specs.Prelude as list
use Rattle.std.specs.FinMap as map
use Rattle.std.specs.Ordering.{nat_cmp}
use Rattle.cg_cells.specs.Meaning.{Grows}
use Rattle.cg_cells.specs.Store.{thing_at}
use Rattle.cg_cells.specs.Table.{passes_of, times}
use Rattle.cg_shared.specs.Passes.{CellsOf, PassOf, IsPassOf, pass_state}

abbrev pub numbers : {A : Type 0} → List (ℕ × A) → List ℕ
numbers {A} all = list.map (λ a. a.0) all

-- An order in which so many lines are answered: each stands in it once
pub record IsOrder (count : ℕ) (order : List ℕ) : Type 0 where
  pub long : length order ≡ count
  pub once : (n : ℕ) → times n order ≡ (if nat_lt n count then 1 else 0)

-- the line that is answered for a ticket
abbrev pub line_at : List ℕ → ℕ → ℕ
line_at order ticket = get_or order ticket 0

-- of the lines of two tickets the first has the greater weight, or the same and a lesser number
abbrev pub IsBefore : List ℕ → ℕ → ℕ → Type 0
IsBefore weights a b =
    (slice_index weights b < slice_index weights a) ⊎ ((slice_index weights a ≡ slice_index weights b) × (a < b))

-- an order in which no line stands behind one of less weight, and lines of one weight stand as they are numbered
abbrev pub IsFalling : List ℕ → List ℕ → Type 0
IsFalling weights order =
    (i j : ℕ) → i < j → j < length order → IsBefore weights (line_at order i) (line_at order j)

-- a number that is less the earlier a line comes
abbrev pub place : List ℕ → ℕ → ℕ
place weights line = (2 ^ 64 - 1 - slice_index weights line) * 2 ^ 64 + line

-- A pass of this table with which a worker begins: it has drawn no line, the order is one of the table's lines, which are at most so
-- many, and a line's share is at least what an answer needs
pub record IsReady {X : Type 0} (count needs : ℕ) (order : List ℕ) (cells : CellsOf) (p : PassOf X) : Type 0 where
  pub own : IsPassOf cells p
  pub new : p.sees.tickets ≡ []
  pub each : IsOrder cells.sizes.lines order
  pub lines : cells.sizes.lines ≤ count
  pub share : needs ≤ cells.sizes.share

module _ {X A : Type 0} (good : ℕ → A → map.FinMap nat_cmp X → Type 0) where
  -- each answer is good for its number, under what is known
  abbrev pub AllAreGood : map.FinMap nat_cmp X → List (ℕ × A) → Type 0
  AllAreGood known all = All (λ (a : ℕ × A). good a.0 a.1 known) all

  -- What a pass of this table and its answers are after one line: it owns what it owned, knows what it knew, and the answer is good
  pub record HasAnswered (cells : CellsOf) (index : ℕ) (before : PassOf X) (answer : A) (after : PassOf X) : Type 0 where
    pub own : IsPassOf cells after
    pub is_good : good index answer (pass_state after).known
    pub known : Grows (thing_at (pass_state before)) (thing_at (pass_state after))
    pub tickets : after.sees.tickets ≡ before.sees.tickets
    pub passes : passes_of after.sees ≡ passes_of before.sees

  -- What workers bring back: a pass that stands for so many, and its answers, one for the line of each ticket, each good. No line is
  -- left
  pub record IsBrought (order : List ℕ) (cells : CellsOf) (passes : ℕ) (all : List (ℕ × A)) (p : PassOf X) : Type 0 where
    pub own : IsPassOf cells p
    pub tickets : numbers all ≡ list.map (line_at order) p.sees.tickets
    pub are_good : AllAreGood (pass_state p).known all
    pub stands_for : passes_of p.sees ≡ passes
    pub over : p.sees.over ≡ true

  -- workers that begin with a pass bring back as much as that pass stands for
  abbrev pub BringsBack : List ℕ → CellsOf → PassOf X → List (ℕ × A) → PassOf X → Type 0
  BringsBack order cells before all p = IsBrought order cells (passes_of before.sees) all p

-- so many answers in the order of their numbers
pub record AreOrdered {A : Type 0} (count : ℕ) (all : List (ℕ × A)) (ordered : List A) : Type 0 where
  pub long : length ordered ≡ count
  pub each : (n : ℕ) (a : A) → slice_get ordered n ≡ Some a → Contains all (n, a)

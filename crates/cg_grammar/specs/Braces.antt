-- What a row of sides with runs of bars between them means.
use Rattle.std.specs.Prelude.{ℕ, zero, suc, ltb, ◌==◌, Bool, false, cond, ◌||◌, List, [], ◌∷◌, ◌++◌, Option, Some, None}
use Rattle.cg_query.specs.Tree.{Tree, braces}
use Rattle.cg_grammar.specs.Found.{Found, first}

-- a run of bars, and the side behind it
pub record Run_side : Type 0 where
  pub column : ℕ
  pub bars : ℕ
  pub side : List Found

-- Whether a run of this length is among these earlier ones, the first of them first, with no longer one behind it.
abbrev pub repeats : ℕ → Bool → List ℕ → Bool
repeats n seen [] = seen
repeats n seen (m ∷ later) = repeats n (cond (ltb n m) false ((n == m) || seen)) later

-- the first fault of a side
abbrev pub side_fault : List Found → Option ℕ
side_fault [] = None
side_fault (e ∷ others) = first e.fault (side_fault others)

-- the first fault of the runs and their sides, behind these earlier runs
abbrev pub runs_fault : List ℕ → List Run_side → Option ℕ
runs_fault earlier [] = None
runs_fault earlier (r ∷ rows) = first (cond (repeats r.bars false earlier) (Some r.column) None) (first (side_fault r.side) (runs_fault (earlier ++ r.bars ∷ []) rows))

abbrev pub row_fault : List Found → List Run_side → Option ℕ
row_fault side rows = first (side_fault side) (runs_fault [] rows)

abbrev pub side_trees : List Found → List Tree
side_trees [] = []
side_trees (e ∷ others) = e.tree ∷ side_trees others

-- a row with no run of a length, or the rows before its first such run, the side behind that, and the rows behind it
pub data Cut : Type 0 where
  Whole : List Run_side → Cut
  Parts : List Run_side → List Found → List Run_side → Cut

abbrev pub cut_from : List Run_side → ℕ → List Run_side → Cut
cut_from before n [] = Whole before
cut_from before n (r ∷ rows) = cond (r.bars == n) (Parts before r.side rows) (cut_from (before ++ r ∷ []) n rows)

-- a part with a run of that length is one option, the braces that the run splits it into
abbrev pub split_by : (List Found → List Run_side → List Tree) → List Found → Cut → List Tree
split_by part side (Whole rows) = part side rows
split_by part side (Parts before middle behind) = braces (part side before) (part middle behind) ∷ []

-- The longest run splits first: runs of this length and then shorter ones. A part without runs is its options.
unfoldable pub part_of : ℕ → List Found → List Run_side → List Tree
part_of zero side rows = side_trees side
part_of (suc n) side rows = split_by (λ s r. part_of n s r) side (cut_from [] (suc n) rows)

abbrev pub only_tree : List Tree → Tree
only_tree [] = braces [] []
only_tree (t ∷ ts) = t

-- the tree of a row with at least one run, each of them of eight bars at most
abbrev pub row_tree : List Found → List Run_side → Tree
row_tree side rows = only_tree (part_of 8 side rows)

-- What a sheet of the code binds names to, and what is told of sizes.
use Rattle.std.specs.Prelude.{ℕ, ◌≡◌, ◌+◌, ◌*◌, ◌%◌, ◌^◌, Bool, false, min, max, List, [], ◌∷◌, map, reverse, Option, Some, None, Result, Ok, Err, slice_get}
use Rattle.std.specs.List.{fold}
use Rattle.std.specs.Str.{bytes_eq}
use Rattle.cg_query.specs.Tree.{Tree, number}
use Rattle.cg_syntax.specs.Naming.{Bindings, expanded, uses_of, first_unknown, sum_of_parts}
use Rattle.cg_syntax.specs.Session.{has_some}
use Rattle.cg_query.specs.Trees.{tree_of}
use Rattle.cg_query.specs.Heights.{height}
use Rattle.cg_query.specs.declared.expr.Expr.{Expr}
use Rattle.cg_query.specs.declared.query.Query.TheVariants as queries
use Rattle.cg_syntax.specs.declared.session.Asked as asked
use Rattle.cg_syntax.specs.declared.session.Asked.TheVariants as askeds
use Rattle.cg_syntax.specs.declared.session.SessionLine.{SessionLine}
use Rattle.cg_syntax.specs.declared.sheet.Bound.{Bound}
use Rattle.cg_syntax.specs.declared.sheet.Sheet.{Sheet}
use Rattle.cg_syntax.specs.declared.sizes.Size.{Size}

-- ---- sizes

-- the most nodes on one path of these trees
abbrev pub heights_of : List Tree → ℕ
heights_of [] = 0
heights_of (t ∷ ts) = max (height t) (heights_of ts)

-- Sizes are counted as far as they matter: parts to 4,097 and levels to 1,025.
pub record Measures (s : Size) (ts : List Tree) : Type 0 where
  pub parts : s.parts ≡ min 4097 (sum_of_parts ts)
  pub levels : s.levels ≡ min 1025 (heights_of ts)

-- the size of trees once each use in them is replaced, and whether there is a use; each use is of a name that is bound
pub record IsSizeOf (bindings : Bindings) (ts : List Tree) (s : Size) : Type 0 where
  pub known : first_unknown bindings (uses_of ts) ≡ None
  pub measures : Measures s (map (expanded bindings) ts)
  pub has_use : s.has_use ≡ has_some (uses_of ts)

-- the size of trees, or the column of the first use of a name that is bound to nothing
abbrev pub IsMeasured : Bindings → List Tree → Result Size ℕ → Type 0
IsMeasured bindings ts (Ok s) = IsSizeOf bindings ts s
IsMeasured bindings ts (Err column) = first_unknown bindings (uses_of ts) ≡ Some column

-- ---- sheets

-- the expression of which a line asks the value
abbrev pub value_of : asked.Asked → Option Expr
value_of (askeds.Query (queries.Value e)) = Some e
value_of _ = None

abbrev pub value_at : Option SessionLine → Option Expr
value_at None = None
value_at (Some line) = value_of line.asked

-- a tree for what is no line, which no sheet has
abbrev pub tree_or_zero : Option Expr → Tree
tree_or_zero None = number false 0 1
tree_or_zero (Some e) = tree_of e

-- a name is bound to the expression of its line
abbrev pub binding_at : List SessionLine → Bound → List ℕ × Tree
binding_at lines b = (b.name, tree_or_zero (value_at (slice_get lines b.line)))

-- what these bindings bind names to, the last one first
abbrev pub bindings_at : List SessionLine → List Bound → Bindings
bindings_at lines bs = reverse (map (binding_at lines) bs)

abbrev pub bindings_in : Sheet → Bindings
bindings_in s = bindings_at s.lines.items s.bound.items

-- a binding by one of these lines, with the size of its expression
pub record IsBoundAt (lines : List SessionLine) (b : Bound) : Type 0 where
  pub expr : Expr
  pub at : value_at (slice_get lines b.line) ≡ Some expr
  pub measures : Measures b.size (tree_of expr ∷ [])

abbrev pub AreBoundAt : List SessionLine → List Bound → Type 0
AreBoundAt lines [] = Unit {0}
AreBoundAt lines (b ∷ bs) = IsBoundAt lines b × AreBoundAt lines bs

-- one digit more at the end of a number, of which the last 32 bits count
abbrev pub with_digit : ℕ → ℕ → ℕ
with_digit before byte = (before * 257 % 2 ^ 32 + byte) % 2 ^ 32

-- the number by which a name is looked up: its bytes are the digits
abbrev pub number_of : List ℕ → ℕ
number_of name = fold with_digit 0 name

-- whether this is a binding of the name
abbrev pub has_name : Option Bound → List ℕ → Bool
has_name None name = false
has_name (Some b) name = bytes_eq b.name name

-- each name is bound by a line of the sheet, and is looked for by its number
pub record IsSound (s : Sheet) : Type 0 where
  pub bound : AreBoundAt s.lines.items s.bound.items
  pub places : s.places ≡ map (λ b. number_of b.name) s.bound.items

-- What the values stand for that the code hands on while it reads.
use Rattle.std.specs.Prelude.{ℕ, List, [], ◌∷◌, map, Option, Some, None}
use Rattle.cg_query.specs.Tree.{Tree, braces, nimber, ups}
use Rattle.cg_grammar.specs.Found.{Found}
use Rattle.cg_grammar.specs.Braces.{Run_side, Cut, Whole, Parts}
use Rattle.cg_grammar.specs.Values.{run_side}
use Rattle.cg_query.specs.Trees.{tree_of}
use Rattle.cg_query.specs.declared.expr.Expr.{Expr}
use Rattle.cg_reader.specs.declared.arrows.Arrows as code_arrows
use Rattle.cg_reader.specs.declared.found.Found as code
use Rattle.cg_reader.specs.declared.found.Row as code_row
use Rattle.cg_reader.specs.declared.found.Rows as code_rows
use Rattle.cg_reader.specs.declared.found.Side as code_side
use Rattle.cg_reader.specs.declared.found.Side.TheVariants as sides
use Rattle.cg_reader.specs.declared.split.Cut as code_cut
use Rattle.cg_reader.specs.declared.split.Cut.TheVariants as cuts
use Rattle.cg_reader.specs.declared.split.Halves as code_halves
use Rattle.cg_reader.specs.declared.split.Halves.TheVariants as halves

-- a tree that was found, with the first fault in it
abbrev pub found_of : code.Found → Found
found_of f = record { tree = tree_of f.expr; fault = f.fault }

-- a tree without a fault
abbrev pub sound : Expr → Found
sound e = record { tree = tree_of e; fault = None }

-- what was found in a side
abbrev pub side_found : code_side.Side → List Found
side_found (sides.Sound exprs) = map sound exprs.items
side_found (sides.Faulty founds) = map found_of founds.items

-- ups or downs
abbrev pub arrows_tree : code_arrows.Arrows → Tree
arrows_tree a = ups a.down a.count

-- ups or downs, if there are some
abbrev pub arrows_option : Option code_arrows.Arrows → Option Tree
arrows_option None = None
arrows_option (Some a) = Some (arrows_tree a)

-- the nimber of a number, if there is one
abbrev pub nimber_option : Option ℕ → Option Tree
nimber_option None = None
nimber_option (Some n) = Some (nimber n)

-- a run of bars, and the side behind it
abbrev pub row_of : code_row.Row → (ℕ × ℕ) × List Found
row_of r = ((r.column, r.bars), side_found r.side)

-- the length of a run of bars
abbrev pub run_length : code_row.Row → ℕ
run_length r = r.bars

abbrev pub rows_of : List code_row.Row → List Run_side
rows_of rows = map run_side (map row_of rows)

-- the rows of braces
abbrev pub row_list : code_rows.Rows → List ((ℕ × ℕ) × List Found)
row_list rows = row_of rows.first ∷ map row_of rows.more.items

abbrev pub cut_of : code_cut.Cut → Cut
cut_of (cuts.Whole rows) = Whole (rows_of rows.items)
cut_of (cuts.Parts before middle behind) = Parts (rows_of before.items) (side_found middle) (rows_of behind.items)

-- the options that a part comes to: two sides are one option, their brace
abbrev pub halves_of : code_halves.Halves → List Tree
halves_of (halves.Options exprs) = map tree_of exprs.items
halves_of (halves.Sides lefts rights) = braces (map tree_of lefts.items) (map tree_of rights.items) ∷ []

-- Braces with one run of bars, or with none.
use Rattle.std.proofs.Common.{◌≡◌, ◌≢◌, ℕ, zero, suc, ◌≤◌, Bool, true, false, List, [], ◌∷◌, Option, Some, None, length, map, refl, sym, ap, ◌∙◌, arith}
use Rattle.std.proofs.lemmas.Bool.{eqb-false}
use Rattle.std.proofs.lemmas.List.{nil_from_length}
use Rattle.std.specs.Prelude.{◌==◌}
use Rattle.cg_query.specs.Tree.{Tree, braces}
use Rattle.cg_query.specs.Trees.{tree_of, trees_in}
use Rattle.cg_grammar.specs.Values.{braces_of, run_side}
use Rattle.cg_query.specs.declared.expr.Expr.{Expr}
use Rattle.cg_query.specs.declared.expr.Exprs.{Exprs}
use Rattle.cg_query.specs.declared.expr.Expr.TheVariants as expr
use Rattle.cg_query.proofs.TreeOf.{braces_tree, empty_braces}
use Rattle.cg_grammar.proofs.Parts.{part_here, part_none}
use Rattle.cg_grammar.specs.Found.{Found, first}
use Rattle.cg_reader.specs.declared.found.Row.{Row}
use Rattle.cg_reader.specs.Views.{rows_of}
use Rattle.cg_grammar.specs.Braces.{Run_side, part_of, side_fault, side_trees, only_tree}

-- a part without runs is its options, whatever is the longest run that it might have
pub part_alone : (k : ℕ) (side : List Found) (rows : List Row) → length rows ≡ 0 → part_of k side (rows_of rows) ≡ side_trees side
part_alone zero side rows none = part_none side (rows_of rows)
part_alone (suc k) side [] none = part_here k side [] ∙ part_alone k side [] none
part_alone (suc k) side (r ∷ rows) none = absurd (omega (arith, none))

-- two sides with one run between them are one option
pub part_one : (k : ℕ) (side : List Found) (r : Run_side) → 1 ≤ r.bars → r.bars ≤ k → part_of k side (r ∷ []) ≡ braces (side_trees side) (side_trees r.side)
    ∷ []
part_one zero side r some most = absurd (omega arith)
part_one (suc k) side r some most = by_length (r.bars == suc k) refl (part_one k side r some)
  where
    differ : (r.bars == suc k) ≡ false → r.bars ≢ suc k
    differ h = eqb-false r.bars (suc k) h

    by_length : (b : Bool) → (r.bars == suc k) ≡ b → (r.bars ≤ k → part_of k side (r ∷ []) ≡ braces (side_trees side) (side_trees r.side) ∷ []) →
        part_of (suc k) side (r ∷ []) ≡ braces (side_trees side) (side_trees r.side) ∷ []
    by_length true h shorter = part_here k side (r ∷ []) ∙ rw (h, part_alone k side [] refl, part_alone k r.side [] refl) refl
    by_length false h shorter = part_here k side (r ∷ []) ∙ rw h (shorter (omega (arith, most, differ h)))

first_none : (x : Option ℕ) → first x None ≡ x
first_none None = refl
first_none (Some c) = refl

-- the braces of two sides with one run between them
pub two_sides : (bars column : ℕ) (left right : List Found) (lefts rights : Exprs) (fault : Option ℕ) → 1 ≤ bars → bars ≤ 8 → trees_in lefts ≡ side_trees left →
    trees_in rights ≡ side_trees right → fault ≡ first (side_fault left) (side_fault right)
    → braces_of left (run_side ((column, bars), right) ∷ []) ≡ record { tree = tree_of (expr.Braces lefts rights); fault = fault }
two_sides bars column left right lefts rights fault some most l r f =
    let row = run_side ((column, bars), right) in
    let tree : only_tree (part_of 8 left (row ∷ [])) ≡ tree_of (expr.Braces lefts rights) = ap only_tree (part_one 8 left row some most) ∙ rw (sym l, sym r)
    (sym (braces_tree lefts rights)) in
    ap (λ (t : Tree). record { tree = t; fault = first (side_fault left) (first (side_fault right) None) }) tree
    ∙ ap (λ (o : Option ℕ). record { tree = tree_of (expr.Braces lefts rights); fault = o }) (ap (first (side_fault left)) (first_none (side_fault right))
    ∙ sym f)

pub only_empty : (parts : List Expr) (l r : Exprs) → length parts ≡ 0 → trees_in l ≡ [] → trees_in r ≡ [] → tree_of (expr.Braces l r) ≡ only_tree
    (map tree_of parts)
only_empty parts l r n e f = empty_braces l r e f ∙ ap (λ (xs : List Expr). only_tree (map tree_of xs)) (sym (nil_from_length parts n))

-- What a walk over an expression goes down: its height is above those of its parts, and a list's is at least an item's.
use Rattle.std.proofs.Common.{◌≡◌, ℕ, zero, suc, ◌<◌, ◌≤◌, Bool, List, [], ◌∷◌, length, get_or, max, ap, ◌∙◌, arith}
use Rattle.std.proofs.Math.Nat.{le-max_left, le-max_right}
use Rattle.std.specs.Global.{Box}
use Rattle.cg_query.specs.declared.expr.Expr.{Expr}
use Rattle.cg_query.specs.declared.expr.Exprs.{Exprs}
use Rattle.cg_query.specs.declared.expr.Term.{Term}
use Rattle.cg_query.specs.declared.expr.Terms.{Terms}
use Rattle.cg_query.specs.declared.expr.Expr.TheVariants as expr
use Rattle.cg_query.specs.Heights.{height, heights, term_heights}
use Rattle.cg_query.specs.Tree.{Tree, trees_from, terms_from}
use Rattle.cg_query.specs.Trees.{tree_of, trees_in, trees_of, term_of, terms_in, terms_of}
use Rattle.cg_query.proofs.TreeOf.{braces_tree, negative_tree, multiple_tree, sum_tree}

-- ---- an expression is higher than its parts

pub height_of_braces : (e : Expr) (lefts rights : Exprs) → e ≡ expr.Braces lefts rights
    → height (tree_of e) ≡ suc (max (heights (trees_from (trees_in lefts))) (heights (trees_from (trees_in rights))))
height_of_braces e lefts rights is = ap (λ (x : Expr). height (tree_of x)) is ∙ ap height (braces_tree lefts rights)

pub height_of_negative : (e : Expr) (inner : Box Expr) → e ≡ expr.Negative inner
    → height (tree_of e) ≡ suc (height (tree_of inner.value))
height_of_negative e inner is = ap (λ (x : Expr). height (tree_of x)) is ∙ ap height (negative_tree inner)

pub height_of_multiple : (e : Expr) (n : ℕ) (inner : Box Expr) → e ≡ expr.Multiple n inner
    → height (tree_of e) ≡ suc (height (tree_of inner.value))
height_of_multiple e n inner is = ap (λ (x : Expr). height (tree_of x)) is ∙ ap height (multiple_tree n inner)

pub height_of_sum : (e : Expr) (terms : Terms) → e ≡ expr.Sum terms
    → height (tree_of e) ≡ suc (term_heights (terms_from (terms_in terms)))
height_of_sum e terms is = ap (λ (x : Expr). height (tree_of x)) is ∙ ap height (sum_tree terms)

-- ---- a list is no lower than an item

height_at : (es : List Expr) (i : ℕ) (d : Expr) → i < length es
    → height (tree_of (get_or es i d)) ≤ heights (trees_from (trees_of es))
height_at [] i d below = absurd (omega arith)
height_at (e ∷ es) zero d below = le-max_left (height (tree_of e)) (heights (trees_from (trees_of es)))
height_at (e ∷ es) (suc i) d below =
    let l = le-max_right (height (tree_of e)) (heights (trees_from (trees_of es))) in omega (arith, l, height_at es i d (omega arith))

pub height_of_item : (es : List Expr) (ts : List Tree) (i : ℕ) (e : Expr) → trees_of es ≡ ts → e ≡ get_or es i e
    → i < length es → height (tree_of e) ≤ heights (trees_from ts)
height_of_item es ts i e trees is below =
    let same : height (tree_of e) ≡ height (tree_of (get_or es i e)) = ap (λ (x : Expr). height (tree_of x)) is in
    let list : heights (trees_from (trees_of es)) ≡ heights (trees_from ts) = ap (λ (us : List Tree). heights (trees_from us)) trees in
    omega (arith, same, list, height_at es i e below)

term_height_at : (es : List Term) (i : ℕ) (d : Term) → i < length es
    → height (term_of (get_or es i d)).1 ≤ term_heights (terms_from (terms_of es))
term_height_at [] i d below = absurd (omega arith)
term_height_at (e ∷ es) zero d below = le-max_left (height (term_of e).1) (term_heights (terms_from (terms_of es)))
term_height_at (e ∷ es) (suc i) d below =
    let l = le-max_right (height (term_of e).1) (term_heights (terms_from (terms_of es))) in omega (arith, l, term_height_at es i d (omega arith))

pub height_of_term : (es : List Term) (ts : List (Bool × Tree)) (i : ℕ) (e : Term) → terms_of es ≡ ts → e ≡ get_or es i e
    → i < length es → height (term_of e).1 ≤ term_heights (terms_from ts)
height_of_term es ts i e terms is below =
    let same : height (term_of e).1 ≡ height (term_of (get_or es i e)).1 = ap (λ (x : Term). height (term_of x).1) is in
    let list : term_heights (terms_from (terms_of es)) ≡ term_heights (terms_from ts) =
    ap (λ (us : List (Bool × Tree)). term_heights (terms_from us)) terms in
    omega (arith, same, list, term_height_at es i e below)

-- the first term and the others
pub first_height : (ts : List (Bool × Tree)) (m : Bool) (x : Tree) (rest : List (Bool × Tree)) → ts ≡ (m, x) ∷ rest
    → (height x ≤ term_heights (terms_from ts)) × (term_heights (terms_from rest) ≤ term_heights (terms_from ts))
first_height ts m x rest e =
    let both : term_heights (terms_from ts) ≡ max (height x) (term_heights (terms_from rest)) =
    ap (λ (z : List (Bool × Tree)). term_heights (terms_from z)) e in
    let l = le-max_left (height x) (term_heights (terms_from rest)) in
    let r = le-max_right (height x) (term_heights (terms_from rest)) in
    (omega (arith, both, l), omega (arith, both, r))

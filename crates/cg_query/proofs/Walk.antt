-- What a walk over an expression goes down: its size is above those of its parts, and a list's is at least an item's.
use Rattle.std.proofs.Common.{◌≡◌, ℕ, zero, suc, ◌+◌, ◌<◌, ◌≤◌, Bool, List, [], ◌∷◌, ◌++◌, length, get_or, take, refl, ap, sym, ◌∙◌, arith}
use Rattle.std.specs.Global.{Box}
use Rattle.cg_query.specs.declared.expr.Expr.{Expr}
use Rattle.cg_query.specs.declared.expr.Exprs.{Exprs}
use Rattle.cg_query.specs.declared.expr.Term.{Term}
use Rattle.cg_query.specs.declared.expr.Terms.{Terms}
use Rattle.cg_query.specs.declared.expr.Expr.TheVariants as expr
use Rattle.cg_query.specs.Tree.{Tree, Trees, Terms as TermTrees, sides, negative, multiple, sum}
use Rattle.cg_query.specs.Tree.{no_trees, with_tree, no_terms, with_term, trees_from, terms_from}
use Rattle.cg_query.specs.Trees.{tree_of, trees_in, trees_of, term_of, terms_in, terms_of}
use Rattle.cg_query.proofs.TreeOf.{braces_tree, negative_tree, multiple_tree, sum_tree}

-- how many trees a tree has, itself among them
abbrev mutual
  pub size : Tree → ℕ
  size (sides lefts rights) = suc (sizes lefts + sizes rights)
  size (negative t) = suc (size t)
  size (multiple n t) = suc (size t)
  size (sum terms) = suc (term_sizes terms)
  size _ = 1

  pub sizes : Trees → ℕ
  sizes no_trees = 0
  sizes (with_tree t ts) = size t + sizes ts

  pub term_sizes : TermTrees → ℕ
  term_sizes no_terms = 0
  term_sizes (with_term subtracted t ts) = size t + term_sizes ts

-- ---- an expression is larger than its parts

pub size_of_braces : (e : Expr) (lefts rights : Exprs) → e ≡ expr.Braces lefts rights
    → size (tree_of e) ≡ suc (sizes (trees_from (trees_in lefts)) + sizes (trees_from (trees_in rights)))
size_of_braces e lefts rights is = ap (λ (x : Expr). size (tree_of x)) is ∙ ap size (braces_tree lefts rights)

pub size_of_negative : (e : Expr) (inner : Box Expr) → e ≡ expr.Negative inner
    → size (tree_of e) ≡ suc (size (tree_of inner.value))
size_of_negative e inner is = ap (λ (x : Expr). size (tree_of x)) is ∙ ap size (negative_tree inner)

pub size_of_multiple : (e : Expr) (n : ℕ) (inner : Box Expr) → e ≡ expr.Multiple n inner
    → size (tree_of e) ≡ suc (size (tree_of inner.value))
size_of_multiple e n inner is = ap (λ (x : Expr). size (tree_of x)) is ∙ ap size (multiple_tree n inner)

pub size_of_sum : (e : Expr) (terms : Terms) → e ≡ expr.Sum terms
    → size (tree_of e) ≡ suc (term_sizes (terms_from (terms_in terms)))
size_of_sum e terms is = ap (λ (x : Expr). size (tree_of x)) is ∙ ap size (sum_tree terms)

-- ---- a list is no smaller than an item

size_at : (es : List Expr) (i : ℕ) (d : Expr) → i < length es
    → size (tree_of (get_or es i d)) ≤ sizes (trees_from (trees_of es))
size_at [] i d below = absurd (omega arith)
size_at (e ∷ es) zero d below = omega arith
size_at (e ∷ es) (suc i) d below = omega (arith, size_at es i d (omega arith))

pub size_of_item : (es : List Expr) (ts : List Tree) (i : ℕ) (e : Expr) → trees_of es ≡ ts → e ≡ get_or es i e
    → i < length es → size (tree_of e) ≤ sizes (trees_from ts)
size_of_item es ts i e trees is below =
    let same : size (tree_of e) ≡ size (tree_of (get_or es i e)) = ap (λ (x : Expr). size (tree_of x)) is in
    let list : sizes (trees_from (trees_of es)) ≡ sizes (trees_from ts) = ap (λ (us : List Tree). sizes
    (trees_from us)) trees in
    omega (arith, size_at es i e below)

term_size_at : (es : List Term) (i : ℕ) (d : Term) → i < length es
    → size (term_of (get_or es i d)).1 ≤ term_sizes (terms_from (terms_of es))
term_size_at [] i d below = absurd (omega arith)
term_size_at (e ∷ es) zero d below = omega arith
term_size_at (e ∷ es) (suc i) d below = omega (arith, term_size_at es i d (omega arith))

pub size_of_term : (es : List Term) (ts : List (Bool × Tree)) (i : ℕ) (e : Term) → terms_of es ≡ ts → e ≡ get_or es i e
    → i < length es → size (term_of e).1 ≤ term_sizes (terms_from ts)
size_of_term es ts i e terms is below =
    let same : size (term_of e).1 ≡ size (term_of (get_or es i e)).1 = ap (λ (x : Term). size (term_of x).1) is in
    let list : term_sizes (terms_from (terms_of es)) ≡ term_sizes (terms_from ts) = ap (λ (us : List (Bool
    × Tree)). term_sizes (terms_from us)) terms in
    omega (arith, term_size_at es i e below)

-- ---- one expression more

pub trees_of-take_suc : (es : List Expr) (i : ℕ) (e : Expr) → i < length es → e ≡ get_or es i e
    → trees_of (take (suc i) es) ≡ trees_of (take i es) ++ (tree_of e ∷ [])
trees_of-take_suc [] i e below is = absurd (omega arith)
trees_of-take_suc (f ∷ es) zero e below is = ap (λ (x : Expr). tree_of x ∷ []) (sym is)
trees_of-take_suc (f ∷ es) (suc i) e below is = ap (λ ts. tree_of f ∷ ts) (trees_of-take_suc es i e (omega arith) is)

pub terms_of-take_suc : (es : List Term) (i : ℕ) (e : Term) → i < length es → e ≡ get_or es i e
    → terms_of (take (suc i) es) ≡ terms_of (take i es) ++ (term_of e ∷ [])
terms_of-take_suc [] i e below is = absurd (omega arith)
terms_of-take_suc (f ∷ es) zero e below is = ap (λ (x : Term). term_of x ∷ []) (sym is)
terms_of-take_suc (f ∷ es) (suc i) e below is = ap (λ ts. term_of f ∷ ts) (terms_of-take_suc es i e (omega arith) is)

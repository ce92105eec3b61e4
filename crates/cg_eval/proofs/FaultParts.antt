-- Faults in lists of expressions and in compound expressions.
use Rattle.std.proofs.Common.{◌≡◌, refl, ap, sym, ◌∙◌, ℕ, suc, ◌+◌, ◌<◌, arith, Bool, Option, Some, None, List, [], ◌∷◌, ◌++◌, length, get_or, take}
use Rattle.cg_eval.specs.declared.fault.GameFault.{GameFault}
use Rattle.cg_query.specs.declared.expr.Expr.{Expr}
use Rattle.cg_query.specs.declared.expr.Exprs.{Exprs}
use Rattle.cg_query.specs.declared.expr.Term.{Term}
use Rattle.cg_query.specs.declared.expr.Expr.TheVariants as expr
use Rattle.cg_query.specs.Tree.{Tree, trees_from, terms_from}
use Rattle.cg_query.specs.Trees.{tree_of, trees_in, trees_of, term_of, terms_of}
use Rattle.cg_query.proofs.TreeOf.{braces_tree, term_tree}
use Rattle.cg_eval.specs.Faults.{fault_in, fault_in_all, fault_in_terms, first_of_two}
use Rattle.cg_query.proofs.Walk.{trees_of-take_suc, terms_of-take_suc}

-- ---- one after another

first-none : (f : Option GameFault) → first_of_two f None ≡ f
first-none None = refl
first-none (Some fault) = refl

first-assoc : (f g h : Option GameFault)
    → first_of_two (first_of_two f g) h ≡ first_of_two f (first_of_two g h)
first-assoc None g h = refl
first-assoc (Some fault) g h = refl

-- ---- lists of expressions

pub all-append : (xs ys : List Tree) → fault_in_all (trees_from (xs ++ ys))
    ≡ first_of_two (fault_in_all (trees_from xs)) (fault_in_all (trees_from ys))
all-append [] ys = refl
all-append (x ∷ xs) ys = ap (first_of_two (fault_in x)) (all-append xs ys)
    ∙ sym (first-assoc (fault_in x) (fault_in_all (trees_from xs)) (fault_in_all (trees_from ys)))

pub all-one_more : (es : List Expr) (i : ℕ) (e : Expr) (found more : Option GameFault) → i < length es
    → e ≡ get_or es i e
    → found ≡ fault_in_all (trees_from (trees_of (take i es))) → more ≡ fault_in (tree_of e)
    → first_of_two found more ≡ fault_in_all (trees_from (trees_of (take (i + 1) es)))
all-one_more es i e found more below at f m =
    let one : i + 1 ≡ suc i = omega arith in
    ap (λ z. first_of_two z more) f
    ∙ ap (first_of_two (fault_in_all (trees_from (trees_of (take i es))))) (m ∙ sym (first-none (fault_in (tree_of e))))
    ∙ sym (all-append (trees_of (take i es)) (tree_of e ∷ []))
    ∙ ap (λ (us : List Tree). fault_in_all (trees_from us)) (sym (trees_of-take_suc es i e below at))
    ∙ ap (λ n. fault_in_all (trees_from (trees_of (take n es)))) (sym one)

-- ---- lists of terms

pub terms-append : (xs ys : List (Bool × Tree)) → fault_in_terms (terms_from (xs ++ ys))
    ≡ first_of_two (fault_in_terms (terms_from xs)) (fault_in_terms (terms_from ys))
terms-append [] ys = refl
terms-append (x ∷ xs) ys = ap (first_of_two (fault_in x.1)) (terms-append xs ys)
    ∙ sym (first-assoc (fault_in x.1) (fault_in_terms (terms_from xs)) (fault_in_terms (terms_from ys)))

pub terms-one_more : (es : List Term) (i : ℕ) (e : Term) (found more : Option GameFault) → i < length es
    → e ≡ get_or es i e
    → found ≡ fault_in_terms (terms_from (terms_of (take i es))) → more ≡ fault_in (tree_of e.expr)
    → first_of_two found more ≡ fault_in_terms (terms_from (terms_of (take (i + 1) es)))
terms-one_more es i e found more below at f m =
    let one : i + 1 ≡ suc i = omega arith in
    let part : fault_in (tree_of e.expr) ≡ fault_in (term_of e).1 = sym (ap (λ (p : Bool × Tree). fault_in p.1)
    (term_tree e.minus e.expr)) in
    ap (λ z. first_of_two z more) f
    ∙ ap (first_of_two (fault_in_terms (terms_from (terms_of (take i es))))) (m ∙ part
    ∙ sym (first-none (fault_in (term_of e).1)))
    ∙ sym (terms-append (terms_of (take i es)) (term_of e ∷ []))
    ∙ ap (λ (us : List (Bool × Tree)). fault_in_terms (terms_from us)) (sym (terms_of-take_suc es i e below at))
    ∙ ap (λ n. fault_in_terms (terms_from (terms_of (take n es)))) (sym one)

-- ---- an expression, from its parts

pub fault_of_tree : (e f : Expr) {t : Tree} → e ≡ f → tree_of f ≡ t → fault_in (tree_of e) ≡ fault_in t
fault_of_tree e f {t} is tree = ap (λ (x : Expr). fault_in (tree_of x)) is ∙ ap fault_in tree

pub fault_of_braces : (e : Expr) (lefts rights : Exprs) → e ≡ expr.Braces lefts rights → fault_in (tree_of e)
    ≡ first_of_two (fault_in_all (trees_from (trees_in lefts))) (fault_in_all (trees_from (trees_in rights)))
fault_of_braces e lefts rights is = ap (λ (x : Expr). fault_in (tree_of x)) is ∙ ap fault_in (braces_tree lefts rights)

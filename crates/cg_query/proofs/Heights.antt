-- Which paths of trees have at most so many nodes.
use Rattle.std.proofs.Common.{◌≡◌, refl, ap, sym, ◌∙◌, subst, ℕ, zero, suc, ◌+◌, ◌<◌, ◌≤◌, max}
use Rattle.std.proofs.Common.{arith, List, [], ◌∷◌, ◌++◌, length, get_or, take, Bool, true, false}
use Rattle.std.specs.Prelude.{◌↔◌, IsTrue}
use Rattle.std.proofs.Math.Nat.{le-max_left, le-max_right, max-le}
use Rattle.cg_query.specs.Tree.{Tree, trees_from, terms_from}
use Rattle.cg_query.specs.Trees.{tree_of, trees_of, term_of, terms_of}
use Rattle.cg_query.specs.Heights.{height, heights, term_heights}
use Rattle.cg_query.specs.declared.expr.Expr.{Expr}
use Rattle.cg_query.specs.declared.expr.Term.{Term}
use Rattle.cg_query.proofs.TreeOf.{term_tree}
use Rattle.cg_query.proofs.Walk.{trees_of-take_suc, terms_of-take_suc}

-- ---- the greater of two

max_both : (a b n : ℕ) → max a b ≤ n → (a ≤ n) × (b ≤ n)
max_both a b n h = (let l = le-max_left a b in omega (arith, l, h), let r = le-max_right a b in omega (arith, r, h))

not_low : {P : Type 0} (r : Bool) → r ≡ false → (IsTrue r ↔ P) → P → ⊥
not_low r e w p = let t = w.1 p in cc

-- ---- forms

height_of : (e f : Expr) (t : Tree) → e ≡ f → tree_of f ≡ t → height (tree_of e) ≡ height t
height_of e f t is tree = ap (λ (x : Expr). height (tree_of x)) is ∙ ap height tree

-- an expression without a part
pub leaf_low : (e f : Expr) (t : Tree) (n : ℕ) → e ≡ f → tree_of f ≡ t → height t ≡ 1 → IsTrue true ↔ (height (tree_of e) ≤ n + 1)
leaf_low e f t n is tree one = let h = height_of e f t is tree in (λ _. omega (arith, h, one), λ _. refl)

-- one with parts
pub parts_low : (e f : Expr) (t : Tree) (n m : ℕ) (r : Bool) → e ≡ f → tree_of f ≡ t → height t ≡ suc m → (IsTrue r ↔ (m ≤ n))
    → IsTrue r ↔ (height (tree_of e) ≤ n + 1)
parts_low e f t n m r is tree one w =
    let h = height_of e f t is tree in (λ x. let l = w.0 x in omega (arith, h, one, l), λ x. w.1 (omega (arith, h, one, x)))

-- ---- lists of expressions

height_at : (es : List Expr) (i : ℕ) (d : Expr) → i < length es → height (tree_of (get_or es i d)) ≤ heights (trees_from (trees_of es))
height_at [] i d below = absurd (omega arith)
height_at (e ∷ es) zero d below = le-max_left (height (tree_of e)) (heights (trees_from (trees_of es)))
height_at (e ∷ es) (suc i) d below =
    let l = le-max_right (height (tree_of e)) (heights (trees_from (trees_of es))) in omega (arith, l, height_at es i d (omega arith))

heights_last : (ts : List Tree) (t : Tree) (n : ℕ) → heights (trees_from ts) ≤ n → height t ≤ n → heights (trees_from (ts ++ (t ∷ []))) ≤ n
heights_last [] t n l h = omega arith
heights_last (u ∷ ts) t n l h = let m = max_both (height u) (heights (trees_from ts)) n l in max-le m.0 (heights_last ts t n m.1 h)

pub heights_next : (es : List Expr) (i : ℕ) (e : Expr) (n : ℕ) → i < length es → e ≡ get_or es i e
    → heights (trees_from (trees_of (take i es))) ≤ n → height (tree_of e) ≤ n → heights (trees_from (trees_of (take (i + 1) es))) ≤ n
heights_next es i e n below is l h =
    let s : suc i ≡ i + 1 = omega arith in
    let last = heights_last (trees_of (take i es)) (tree_of e) n l h in
    let P : List Tree → Type 0 = λ z. heights (trees_from z) ≤ n in
    let Q : ℕ → Type 0 = λ k. heights (trees_from (trees_of (take k es))) ≤ n in
    subst Q s (subst P (sym (trees_of-take_suc es i e below is)) last)

pub item_high : (es : List Expr) (ts : List Tree) (i : ℕ) (e : Expr) (n : ℕ) (r : Bool) → trees_of es ≡ ts → e ≡ get_or es i e
    → i < length es → r ≡ false → (IsTrue r ↔ (height (tree_of e) ≤ n)) → IsTrue false ↔ (heights (trees_from ts) ≤ n)
item_high es ts i e n r trees is below high w =
    let same : height (tree_of e) ≡ height (tree_of (get_or es i e)) = ap (λ (x : Expr). height (tree_of x)) is in
    let list : heights (trees_from (trees_of es)) ≡ heights (trees_from ts) = ap (λ (us : List Tree). heights (trees_from us)) trees in
    (λ h. absurd (cc), λ h. absurd (not_low r high w (omega (arith, height_at es i e below, same, list, h))))

-- ---- terms

term_height_at : (es : List Term) (i : ℕ) (d : Term) → i < length es → height (term_of (get_or es i d)).1 ≤ term_heights (terms_from (terms_of es))
term_height_at [] i d below = absurd (omega arith)
term_height_at (e ∷ es) zero d below = le-max_left (height (term_of e).1) (term_heights (terms_from (terms_of es)))
term_height_at (e ∷ es) (suc i) d below =
    let l = le-max_right (height (term_of e).1) (term_heights (terms_from (terms_of es))) in omega (arith, l, term_height_at es i d (omega arith))

term_heights_last : (ts : List (Bool × Tree)) (t : Bool × Tree) (n : ℕ) → term_heights (terms_from ts) ≤ n → height t.1 ≤ n
    → term_heights (terms_from (ts ++ (t ∷ []))) ≤ n
term_heights_last [] t n l h = omega arith
term_heights_last (u ∷ ts) t n l h = let m = max_both (height u.1) (term_heights (terms_from ts)) n l in max-le m.0 (term_heights_last ts t n m.1 h)

-- the tree of a term
same_height : (e : Term) → height (term_of e).1 ≡ height (tree_of e.expr)
same_height e = ap (λ (p : Bool × Tree). height p.1) (term_tree e.minus e.expr)

pub term_heights_next : (es : List Term) (i : ℕ) (e : Term) (n : ℕ) → i < length es → e ≡ get_or es i e
    → term_heights (terms_from (terms_of (take i es))) ≤ n → height (tree_of e.expr) ≤ n
    → term_heights (terms_from (terms_of (take (i + 1) es))) ≤ n
term_heights_next es i e n below is l h =
    let s : suc i ≡ i + 1 = omega arith in
    let last = term_heights_last (terms_of (take i es)) (term_of e) n l (omega (arith, same_height e, h)) in
    let P : List (Bool × Tree) → Type 0 = λ z. term_heights (terms_from z) ≤ n in
    let Q : ℕ → Type 0 = λ k. term_heights (terms_from (terms_of (take k es))) ≤ n in
    subst Q s (subst P (sym (terms_of-take_suc es i e below is)) last)

pub term_high : (es : List Term) (ts : List (Bool × Tree)) (i : ℕ) (e : Term) (n : ℕ) (r : Bool) → terms_of es ≡ ts → e ≡ get_or es i e
    → i < length es → r ≡ false → (IsTrue r ↔ (height (tree_of e.expr) ≤ n)) → IsTrue false ↔ (term_heights (terms_from ts) ≤ n)
term_high es ts i e n r terms is below high w =
    let same : height (term_of e).1 ≡ height (term_of (get_or es i e)).1 = ap (λ (x : Term). height (term_of x).1) is in
    let list : term_heights (terms_from (terms_of es)) ≡ term_heights (terms_from ts) = ap (λ (us : List (Bool × Tree)). term_heights (terms_from us)) terms in
    (λ h. absurd (cc), λ h. absurd (not_low r high w (omega (arith, term_height_at es i e below, same_height e, same, list, h))))

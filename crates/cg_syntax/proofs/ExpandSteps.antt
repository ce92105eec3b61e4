-- Expressions with each use replaced, form by form and item by item.
use Rattle.std.proofs.Common.{◌≡◌, refl, ap, sym, ◌∙◌, subst, ℕ, zero, suc, ◌+◌, ◌<◌, ◌≤◌, arith, Bool, true, false}
use Rattle.std.proofs.Common.{cond, List, [], ◌∷◌, ◌++◌, map, reverse, length, get_or, take, Option, Some, None}
use Rattle.std.specs.Prelude.{slice_get}
use Rattle.std.specs.Str.{bytes_eq}
use Rattle.std.specs.Global.{Box}
use Rattle.std.proofs.lemmas.List.{map-append, reverse-append}
use Rattle.cg_query.specs.Tree.{Tree, braces, negative, multiple, sum, used, game, octal, trees_from, terms_from, Trees, Terms as TermTrees}
use Rattle.cg_query.specs.Trees.{tree_of, trees_in, term_of, terms_in, terms_of}
use Rattle.cg_syntax.specs.Naming.{Bindings, bound_to, expanded, expanded_all, expanded_terms, or_use}
use Rattle.cg_syntax.specs.Bound.{AreBoundAt, bindings_at, binding_at, tree_or_zero, value_at, value_of}
use Rattle.cg_query.specs.declared.kind.GameKind.{GameKind}
use Rattle.cg_query.specs.declared.expr.Expr.{Expr}
use Rattle.cg_query.specs.declared.expr.Exprs.{Exprs}
use Rattle.cg_query.specs.declared.expr.Term.{Term}
use Rattle.cg_query.specs.declared.expr.Terms.{Terms}
use Rattle.cg_query.specs.declared.expr.Expr.TheVariants as expr
use Rattle.cg_syntax.specs.declared.session.SessionLine.{SessionLine}
use Rattle.cg_syntax.specs.declared.sheet.Bound.{Bound}
use Rattle.cg_query.proofs.TreeOf.{term_tree, braces_tree, negative_tree, multiple_tree, sum_tree, game_tree, octal_tree, used_tree}
use Rattle.cg_query.proofs.Walk.{size, terms_of-take_suc}

-- ---- forms

-- what replaces an expression, by the forms of both
pub form_expanded : (bs : Bindings) (e f g : Expr) (t u : Tree) → e ≡ f → tree_of f ≡ t → tree_of g ≡ u → u ≡ expanded bs t
    → tree_of g ≡ expanded bs (tree_of e)
form_expanded bs e f g t u is tree made same = made ∙ same ∙ ap (expanded bs) (sym (ap tree_of is ∙ tree))

expanded_all_from : (bs : Bindings) (ts : List Tree) → expanded_all bs (trees_from ts) ≡ trees_from (map (expanded bs) ts)
expanded_all_from bs [] = refl
expanded_all_from bs (t ∷ ts) = ap (λ (z : Trees). Trees.with_tree (expanded bs t) z) (expanded_all_from bs ts)

abbrev pub expanded_term : Bindings → Bool × Tree → Bool × Tree
expanded_term bs t = (t.0, expanded bs t.1)

expanded_terms_from : (bs : Bindings) (ts : List (Bool × Tree)) → expanded_terms bs (terms_from ts) ≡ terms_from (map (expanded_term bs) ts)
expanded_terms_from bs [] = refl
expanded_terms_from bs (t ∷ ts) = ap (λ (z : TermTrees). TermTrees.with_term t.0 (expanded bs t.1) z) (expanded_terms_from bs ts)

pub braces_expanded : (bs : Bindings) (e : Expr) (lefts rights made more : Exprs) → e ≡ expr.Braces lefts rights
    → trees_in made ≡ map (expanded bs) (trees_in lefts) → trees_in more ≡ map (expanded bs) (trees_in rights)
    → tree_of (expr.Braces made more) ≡ expanded bs (tree_of e)
braces_expanded bs e lefts rights made more is l r =
    form_expanded bs e (expr.Braces lefts rights) (expr.Braces made more) (braces (trees_in lefts) (trees_in rights)) (braces (trees_in made) (trees_in more))
    is (braces_tree lefts rights) (braces_tree made more)
    (ap (λ (z : List Tree). Tree.sides (trees_from z) (trees_from (trees_in more))) l
    ∙ ap (λ (z : List Tree). Tree.sides (trees_from (map (expanded bs) (trees_in lefts))) (trees_from z)) r
    ∙ ap (λ (z : Trees). Tree.sides z (trees_from (map (expanded bs) (trees_in rights)))) (sym (expanded_all_from bs (trees_in lefts)))
    ∙ ap (λ (z : Trees). Tree.sides (expanded_all bs (trees_from (trees_in lefts))) z) (sym (expanded_all_from bs (trees_in rights))))

pub negative_expanded : (bs : Bindings) (e i : Expr) (inner made : Box Expr) → e ≡ expr.Negative inner → i ≡ inner.value
    → tree_of made.value ≡ expanded bs (tree_of i) → tree_of (expr.Negative made) ≡ expanded bs (tree_of e)
negative_expanded bs e i inner made is at h =
    form_expanded bs e (expr.Negative inner) (expr.Negative made) (negative (tree_of inner.value)) (negative (tree_of made.value))
    is (negative_tree inner) (negative_tree made) (ap negative (h ∙ ap (λ (x : Expr). expanded bs (tree_of x)) at))

pub multiple_expanded : (bs : Bindings) (n : ℕ) (e i : Expr) (inner made : Box Expr) → e ≡ expr.Multiple n inner → i ≡ inner.value
    → tree_of made.value ≡ expanded bs (tree_of i) → tree_of (expr.Multiple n made) ≡ expanded bs (tree_of e)
multiple_expanded bs n e i inner made is at h =
    form_expanded bs e (expr.Multiple n inner) (expr.Multiple n made) (multiple n (tree_of inner.value)) (multiple n (tree_of made.value))
    is (multiple_tree n inner) (multiple_tree n made) (ap (multiple n) (h ∙ ap (λ (x : Expr). expanded bs (tree_of x)) at))

pub sum_expanded : (bs : Bindings) (e : Expr) (terms made : Terms) → e ≡ expr.Sum terms → terms_in made ≡ map (expanded_term bs) (terms_in terms)
    → tree_of (expr.Sum made) ≡ expanded bs (tree_of e)
sum_expanded bs e terms made is h =
    form_expanded bs e (expr.Sum terms) (expr.Sum made) (sum (terms_from (terms_in terms))) (sum (terms_from (terms_in made)))
    is (sum_tree terms) (sum_tree made)
    (ap (λ (z : List (Bool × Tree)). sum (terms_from z)) h ∙ ap (λ (z : TermTrees). sum z) (sym (expanded_terms_from bs (terms_in terms))))

pub game_expanded : (bs : Bindings) (e : Expr) (kind : GameKind) (rules board r b : List ℕ) → e ≡ expr.Game kind rules board → r ≡ rules → b ≡ board
    → tree_of (expr.Game kind r b) ≡ expanded bs (tree_of e)
game_expanded bs e kind rules board r b is same_rules same_board =
    form_expanded bs e (expr.Game kind rules board) (expr.Game kind r b) (game kind rules board) (game kind r b)
    is (game_tree kind rules board) (game_tree kind r b)
    (ap (λ (z : List ℕ). game kind z b) same_rules ∙ ap (λ (z : List ℕ). game kind rules z) same_board)

pub octal_expanded : (bs : Bindings) (e : Expr) (code c : List ℕ) (heap : ℕ) → e ≡ expr.Octal code heap → c ≡ code
    → tree_of (expr.Octal c heap) ≡ expanded bs (tree_of e)
octal_expanded bs e code c heap is same =
    form_expanded bs e (expr.Octal code heap) (expr.Octal c heap) (octal code heap) (octal c heap)
    is (octal_tree code heap) (octal_tree c heap) (ap (λ (z : List ℕ). octal z heap) same)

-- a use, by what stands in its place
pub use_expanded : (bs : Bindings) (e g : Expr) (word : List ℕ) (column : ℕ) → e ≡ expr.Name word column
    → tree_of g ≡ or_use word column (bound_to bs word) → tree_of g ≡ expanded bs (tree_of e)
use_expanded bs e g word column is h =
    form_expanded bs e (expr.Name word column) g (used word column) (or_use word column (bound_to bs word)) is (used_tree word column) h refl

-- ---- items

pub term_next : (bs : Bindings) (es : List Term) (i : ℕ) (d : Term) (e : Expr) (done : List Term) → i < length es → d ≡ get_or es i d
    → terms_of done ≡ map (expanded_term bs) (terms_of (take i es)) → tree_of e ≡ expanded bs (tree_of d.expr)
    → terms_of (done ++ record { minus = d.minus; expr = e } ∷ []) ≡ map (expanded_term bs) (terms_of (take (i + 1) es))
term_next bs es i d e done below is l h =
    let s : suc i ≡ i + 1 = omega arith in
    let own : term_of (record { minus = d.minus; expr = e }) ≡ expanded_term bs (term_of d) =
    term_tree d.minus e ∙ ap (λ (z : Tree). (d.minus, z)) h ∙ ap (expanded_term bs) (sym (term_tree d.minus d.expr)) in
    map-append term_of done (record { minus = d.minus; expr = e } ∷ [])
    ∙ ap (λ (z : List (Bool × Tree)). z ++ term_of (record { minus = d.minus; expr = e }) ∷ []) l
    ∙ ap (λ (z : Bool × Tree). map (expanded_term bs) (terms_of (take i es)) ++ z ∷ []) own
    ∙ sym (map-append (expanded_term bs) (terms_of (take i es)) (term_of d ∷ []))
    ∙ ap (λ (z : List (Bool × Tree)). map (expanded_term bs) z) (sym (terms_of-take_suc es i d below is))
    ∙ ap (λ (k : ℕ). map (expanded_term bs) (terms_of (take k es))) s

-- ---- what is bound is no larger than all lines

abbrev size_of : Option Expr → ℕ
size_of None = 0
size_of (Some e) = size (tree_of e)

-- how many trees the values of these lines have
abbrev pub room_of : List SessionLine → ℕ
room_of [] = 0
room_of (l ∷ lines) = size_of (value_of l.asked) + room_of lines

abbrev AreLow : ℕ → Bindings → Type 0
AreLow n [] = Unit {0}
AreLow n (b ∷ bs) = (size b.1 ≤ n) × AreLow n bs

low_append : (n : ℕ) (bs cs : Bindings) → AreLow n bs → AreLow n cs → AreLow n (bs ++ cs)
low_append n [] cs l m = m
low_append n (b ∷ bs) cs l m = (l.0, low_append n bs cs l.1 m)

low_reverse : (n : ℕ) (bs : Bindings) → AreLow n bs → AreLow n (reverse bs)
low_reverse n [] l = tt
low_reverse n (b ∷ bs) l =
    subst (λ (z : Bindings). AreLow n z) (sym (reverse-append (b ∷ []) bs)) (low_append n (reverse bs) (b ∷ []) (low_reverse n bs l.1) (l.0, tt))

same_tree : (t u : Tree) → Some t ≡ Some u → t ≡ u
same_tree t u e = cc

bound_low : (n : ℕ) (bs : Bindings) → AreLow n bs → (word : List ℕ) (t : Tree) → bound_to bs word ≡ Some t → size t ≤ n
bound_low n [] l word t e = absurd cc
bound_low n (b ∷ bs) l word t e = by (bytes_eq b.0 word) (bound_low n bs l.1 word t) e
  where
    by : (x : Bool) → (bound_to bs word ≡ Some t → size t ≤ n) → cond x (Some b.1) (bound_to bs word) ≡ Some t → size t ≤ n
    by true g f = let s = ap size (same_tree b.1 t f) in omega (arith, l.0, s)
    by false g f = g f

at_low : (lines : List SessionLine) (n : ℕ) (e : Expr) → value_at (slice_get lines n) ≡ Some e → size (tree_of e) ≤ room_of lines
at_low [] n e h = absurd cc
at_low (l ∷ lines) zero e h = let s : size_of (value_of l.asked) ≡ size (tree_of e) = ap size_of h in omega (arith, s)
at_low (l ∷ lines) (suc n) e h = omega (arith, at_low lines n e h)

map_low : (lines : List SessionLine) (bs : List Bound) → AreBoundAt lines bs → AreLow (room_of lines) (map (binding_at lines) bs)
map_low lines [] a = tt
map_low lines (b ∷ bs) a =
    let s : size (tree_or_zero (value_at (slice_get lines b.line))) ≡ size (tree_of a.0.expr) = ap (λ (o : Option Expr). size (tree_or_zero o)) a.0.at in
    (omega (arith, s, at_low lines b.line a.0.expr a.0.at), map_low lines bs a.1)

pub bound_within : (lines : List SessionLine) (bs : List Bound) (word : List ℕ) (e : Expr) → AreBoundAt lines bs
    → Some (tree_of e) ≡ bound_to (bindings_at lines bs) word → size (tree_of e) ≤ room_of lines
bound_within lines bs word e a h =
    bound_low (room_of lines) (bindings_at lines bs) (low_reverse (room_of lines) (map (binding_at lines) bs) (map_low lines bs a)) word (tree_of e) (sym h)

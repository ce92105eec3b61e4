-- What each form of expression spells, from what its parts spell.
use Rattle.std.proofs.Common.{◌≡◌, ℕ, Bool, false, List, [], ◌∷◌, length, map, sym, ap, ◌∙◌}
use Rattle.std.proofs.lemmas.List.{length-map, nil_from_length}
use Rattle.std.proofs.lemmas.Bool.{eqb-true, eq-eqb}
use Rattle.std.specs.Prelude.{◌==◌, ◌↔◌, IsTrue}
use Rattle.std.specs.Global.{Vec, Box}
use Rattle.cg_query.specs.Tree.{Tree, number, ups, nimber, switch, tiny, braces, negative, multiple, sum, game, octal, used, terms_from}
use Rattle.cg_query.specs.Trees.{tree_of, trees_in, term_of, terms_in, trees_of, terms_of, tree_step, exprs_step, term_step, terms_step}
use Rattle.cg_query.specs.declared.kind.GameKind.{GameKind}
use Rattle.cg_query.specs.declared.expr.Expr.{Expr}
use Rattle.cg_query.specs.declared.expr.Exprs.{Exprs}
use Rattle.cg_query.specs.declared.expr.Term.{Term}
use Rattle.cg_query.specs.declared.expr.Terms.{Terms}
use Rattle.cg_query.specs.declared.expr.Expr.TheVariants as expr
use Rattle.cg_query.specs.declared.expr.Expr.TheVariants.{rolls-Number, rolls-Ups, rolls-Nimber, rolls-Switch, rolls-Tiny, rolls-Braces}
use Rattle.cg_query.specs.declared.expr.Expr.TheVariants.{rolls-Negative, rolls-Multiple, rolls-Sum, rolls-Game, rolls-Octal, rolls-Name}
use Rattle.cg_query.specs.declared.expr.Expr.TheOpen.{Expr-F}
use Rattle.cg_query.specs.declared.expr.Expr.TheViews.{out-Terms, roll-Terms}
use Rattle.cg_query.specs.declared.expr.Expr.TheFolds.{fold-roll-Terms, fold-roll-Expr, fold_out-Exprs, fold_out-Term, fold_out-Terms}

-- ---- lists

pub exprs_trees : (es : Exprs) → trees_in es ≡ trees_of es.items.items
unfolding trees_in tree_of
exprs_trees es = fold_out-Exprs Tree (List Tree) (Bool × Tree) (List (Bool × Tree)) tree_step exprs_step term_step terms_step es

pub terms_terms : (ts : Terms) → terms_in ts ≡ terms_of (out-Terms ts).terms.items
unfolding terms_in term_of
terms_terms ts = fold_out-Terms Tree (List Tree) (Bool × Tree) (List (Bool × Tree)) tree_step exprs_step term_step terms_step ts

pub terms_made : (ts : Vec Term) → terms_in (roll-Terms (record { terms = ts })) ≡ terms_of ts.items
unfolding terms_in term_of
terms_made ts = fold-roll-Terms Tree (List Tree) (Bool × Tree) (List (Bool × Tree)) tree_step exprs_step term_step terms_step (record { terms = ts })

pub terms_length : (ts : Terms) → length (terms_in ts) ≡ length (out-Terms ts).terms.items
terms_length ts = ap length (terms_terms ts) ∙ simp length-map

pub trees_length : (es : Exprs) → length (trees_in es) ≡ length es.items.items
trees_length es = ap length (exprs_trees es) ∙ simp length-map

-- a test for no item tells whether the list of trees is empty
pub empty_exactly : {A : Type 0} (ts : List A) (n : ℕ) (b : Bool) → b ≡ (n == 0) → length ts ≡ n → IsTrue b ↔ (ts ≡ [])
empty_exactly ts n b e l = (λ h. nil_from_length ts (l ∙ eqb-true n 0 (sym e ∙ h)), λ h. e ∙ eq-eqb n 0 (sym l ∙ ap length h))

pub term_tree : (minus : Bool) (e : Expr) → term_of (record { minus = minus; expr = e }) ≡ (minus, tree_of e)
unfolding tree_of term_of
term_tree minus e = fold_out-Term Tree (List Tree) (Bool × Tree) (List (Bool × Tree)) tree_step exprs_step term_step terms_step (record {
  minus = minus;
  expr = e;
})

-- ---- forms of expressions

pub number_tree : (below : Bool) (num den : ℕ) → tree_of (expr.Number below num den) ≡ number below num den
unfolding tree_of
number_tree below num den = ap tree_of (sym (rolls-Number below num den)) ∙ fold-roll-Expr Tree (List Tree) (Bool × Tree) (List (Bool × Tree)) tree_step
    exprs_step term_step terms_step (Expr-F.Number below num den)

pub ups_tree_of : (down : Bool) (count : ℕ) → tree_of (expr.Ups down count) ≡ ups down count
unfolding tree_of
ups_tree_of down count = ap tree_of (sym (rolls-Ups down count)) ∙ fold-roll-Expr Tree (List Tree) (Bool × Tree) (List (Bool × Tree)) tree_step exprs_step
    term_step terms_step (Expr-F.Ups down count)

pub nimber_tree : (n : ℕ) → tree_of (expr.Nimber n) ≡ nimber n
unfolding tree_of
nimber_tree n = ap tree_of (sym (rolls-Nimber n)) ∙ fold-roll-Expr Tree (List Tree) (Bool × Tree) (List (Bool × Tree)) tree_step exprs_step term_step terms_step
    (Expr-F.Nimber n)

pub switch_tree : (num den : ℕ) → tree_of (expr.Switch num den) ≡ switch num den
unfolding tree_of
switch_tree num den = ap tree_of (sym (rolls-Switch num den)) ∙ fold-roll-Expr Tree (List Tree) (Bool × Tree) (List (Bool × Tree)) tree_step exprs_step
    term_step terms_step (Expr-F.Switch num den)

pub tiny_tree : (miny : Bool) (num den : ℕ) → tree_of (expr.Tiny miny num den) ≡ tiny miny num den
unfolding tree_of
tiny_tree miny num den = ap tree_of (sym (rolls-Tiny miny num den)) ∙ fold-roll-Expr Tree (List Tree) (Bool × Tree) (List (Bool × Tree)) tree_step exprs_step
    term_step terms_step (Expr-F.Tiny miny num den)

pub braces_tree : (lefts rights : Exprs) → tree_of (expr.Braces lefts rights) ≡ braces (trees_in lefts) (trees_in rights)
unfolding tree_of trees_in
braces_tree lefts rights = ap tree_of (sym (rolls-Braces lefts rights)) ∙ fold-roll-Expr Tree (List Tree) (Bool × Tree) (List (Bool × Tree)) tree_step
    exprs_step term_step terms_step (Expr-F.Braces lefts rights)

pub negative_tree : (e : Box Expr) → tree_of (expr.Negative e) ≡ negative (tree_of e.value)
unfolding tree_of
negative_tree e = ap tree_of (sym (rolls-Negative e)) ∙ fold-roll-Expr Tree (List Tree) (Bool × Tree) (List (Bool × Tree)) tree_step exprs_step term_step
    terms_step (Expr-F.Negative e)

pub multiple_tree : (n : ℕ) (e : Box Expr) → tree_of (expr.Multiple n e) ≡ multiple n (tree_of e.value)
unfolding tree_of
multiple_tree n e = ap tree_of (sym (rolls-Multiple n e)) ∙ fold-roll-Expr Tree (List Tree) (Bool × Tree) (List (Bool × Tree)) tree_step exprs_step term_step
    terms_step (Expr-F.Multiple n e)

pub sum_tree : (ts : Terms) → tree_of (expr.Sum ts) ≡ sum (terms_from (terms_in ts))
unfolding tree_of terms_in
sum_tree ts = ap tree_of (sym (rolls-Sum ts)) ∙ fold-roll-Expr Tree (List Tree) (Bool × Tree) (List (Bool × Tree)) tree_step exprs_step term_step terms_step
    (Expr-F.Sum ts)

pub game_tree : (kind : GameKind) (rules board : List ℕ) → tree_of (expr.Game kind rules board) ≡ game kind rules board
unfolding tree_of
game_tree kind rules board = ap tree_of (sym (rolls-Game kind rules board)) ∙ fold-roll-Expr Tree (List Tree) (Bool × Tree) (List (Bool × Tree)) tree_step
    exprs_step term_step terms_step (Expr-F.Game kind rules board)

pub octal_tree : (code : List ℕ) (heap : ℕ) → tree_of (expr.Octal code heap) ≡ octal code heap
unfolding tree_of
octal_tree code heap = ap tree_of (sym (rolls-Octal code heap)) ∙ fold-roll-Expr Tree (List Tree) (Bool × Tree) (List (Bool × Tree)) tree_step exprs_step
    term_step terms_step (Expr-F.Octal code heap)

pub used_tree : (word : List ℕ) (column : ℕ) → tree_of (expr.Name word column) ≡ used word column
unfolding tree_of
used_tree word column = ap tree_of (sym (rolls-Name word column)) ∙ fold-roll-Expr Tree (List Tree) (Bool × Tree) (List (Bool × Tree)) tree_step exprs_step
    term_step terms_step (Expr-F.Name word column)

-- ---- short sums and empty braces

pub two_terms : (ts : List Term) (a b : Expr) → ts ≡ record { minus = false; expr = a } ∷ record {
  minus = false;
  expr = b;
} ∷ [] → terms_of ts ≡ (false, tree_of a) ∷ (false, tree_of b) ∷ []
two_terms ts a b e = ap (λ (xs : List Term). terms_of xs) e
    ∙ ap (λ (x : Bool × Tree). x ∷ term_of (record { minus = false; expr = b }) ∷ []) (term_tree false a)
    ∙ ap (λ (x : Bool × Tree). (false, tree_of a) ∷ x ∷ []) (term_tree false b)

pub three_terms : (ts : List Term) (a b c : Expr) → ts ≡ record { minus = false; expr = a } ∷ record { minus = false; expr = b } ∷ record {
  minus = false;
  expr = c;
} ∷ [] → terms_of ts ≡ (false, tree_of a) ∷ (false, tree_of b) ∷ (false, tree_of c) ∷ []
three_terms ts a b c e = ap (λ (xs : List Term). terms_of xs) e
    ∙ ap (λ (x : Bool × Tree). x ∷ term_of (record { minus = false; expr = b }) ∷ term_of (record { minus = false; expr = c }) ∷ []) (term_tree false a)
    ∙ ap (λ (x : Bool × Tree). (false, tree_of a) ∷ x ∷ term_of (record { minus = false; expr = c }) ∷ []) (term_tree false b)
    ∙ ap (λ (x : Bool × Tree). (false, tree_of a) ∷ (false, tree_of b) ∷ x ∷ []) (term_tree false c)

pub empty_braces : (l r : Exprs) → trees_in l ≡ [] → trees_in r ≡ [] → tree_of (expr.Braces l r) ≡ braces [] []
empty_braces l r e f = braces_tree l r ∙ ap (λ (xs : List Tree). braces xs (trees_in r)) e ∙ ap (λ (xs : List Tree). braces [] xs) f
